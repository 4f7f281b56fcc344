-- Lists packed in bytes, with what shortens searches among them.
use Rattle.std.specs.Prelude.{◌≡◌, ℕ, ◌<◌, [], List, length}
use Rattle.encoded_keys.specs.Blocks.{AreLevels, IsLevel}
use Rattle.encoded_keys.specs.Heads.{AreSteps, AreTops}
use Rattle.encoded_keys.specs.Index.{IsIndexed}
use Rattle.encoded_keys.specs.Laid.{codes_in, halves, odds, IsLaid}
use Rattle.encoded_keys.specs.declared.keys.blocks.Level.{Level}

-- the lists have these heads, each behind what its block skips: nothing, where there are no levels above the heads
pub record AreHeaded (cs : List (List ℕ)) (hs skips : List ℕ) (ls : List Level) : Type 0 where
  pub level : IsLevel cs 1 hs skips
  pub plain : length ls ≡ 0 → skips ≡ []
  pub levels : 0 < length ls → AreLevels cs ls

-- the lists are packed one behind the other, and have these heads, levels or tables, and slots
pub record ArePacked (bytes ends hs skips : List ℕ) (levels : List Level) (steps tops slots : List ℕ) (tags : ℕ) : Type 0 where
  pub laid : IsLaid bytes 0 (halves ends) (odds ends)
  pub headed : AreHeaded (codes_in bytes 0 (halves ends) (odds ends)) hs skips levels
  pub stepped : AreSteps hs steps
  pub topped : AreTops hs tops
  pub indexed : IsIndexed (codes_in bytes 0 (halves ends) (odds ends)) slots tags
