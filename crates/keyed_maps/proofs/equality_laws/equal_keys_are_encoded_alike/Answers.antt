use Rattle.std.proofs.Common.{ap}
use Rattle.std.proofs.lemmas.Bool.{eqb-true}
use Rattle.std.proofs.lemmas.Slice.Eq.{bytes_eq-Decides}
use Rattle.nibble_map.specs.Nibbles.{nibbles}
use Rattle.radix_keys.specs.Integers.{unsigned_key}
use Rattle.keyed_maps.proofs.equality_laws.equal_keys_are_encoded_alike.Goals as goal

pub returns : goal.returns
returns g c = record {
  numbers = λ w x y _ _ same. ap (unsigned_key w) (eqb-true x y same);
  texts = λ bytes_of x y _ _ same. ap nibbles ((bytes_eq-Decides (bytes_of x) (bytes_of y)).0 same);
}
