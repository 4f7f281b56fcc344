-- What a map lends, by what a contract sees of it.
use Rattle.std.specs.Prelude.{ℕ, List, reverse}
use Rattle.std.specs.Borrow.{Bor}
use Rattle.radix_keys.specs.Networks.{Net}
use Rattle.prefix_maps.specs.declared.routes.RouteWalk.{RouteWalk}
use Rattle.prefix_maps.specs.declared.routes.RouteWalk.TheVariants as routes
use Rattle.prefix_maps.specs.declared.tries.TrieWalk.{TrieWalk}
use Rattle.prefix_maps.specs.declared.tries.TrieWalk.TheVariants as way
use Rattle.prefix_maps.specs.declared.frozen_tries.FrozenWalk.{FrozenWalk}
use Rattle.prefix_maps.specs.declared.frozen_tries.FrozenWalk.TheVariants as frozen
use Rattle.prefix_maps.specs.declared.frozen_texts.TextWalk.{TextWalk}
use Rattle.prefix_maps.specs.declared.frozen_texts.TextWalk.TheVariants as texts

-- a pair that is lent, of whose key a function tells what it is
abbrev pub lent_pair : {X K V : Type 0} → (X → K) → X × Bor V → K × V
lent_pair key p = (key p.0, p.1.now)

-- the pairs that a walk over a trie has left
abbrev pub trie_walk_left : {K V : Type 0} → TrieWalk K V → List (K × V)
trie_walk_left (way.Forward left) = left
trie_walk_left (way.Back left) = left
trie_walk_left (way.Prefixes left) = left

-- the pairs that a walk over a frozen trie has left
abbrev pub frozen_walk_left : {K V : Type 0} → FrozenWalk K V → List (K × V)
frozen_walk_left (frozen.Pairs left) = left.now
frozen_walk_left (frozen.Back left) = reverse left.now
frozen_walk_left (frozen.Prefixes left) = left

-- the pairs that a walk over frozen texts has left
abbrev pub text_walk_left : {V : Type 0} → TextWalk V → List (List ℕ × V)
text_walk_left (texts.Pairs left) = left
text_walk_left (texts.Back left) = reverse left
text_walk_left (texts.Prefixes left) = left

-- the rows that a walk over a routing table has left
abbrev pub route_walk_left : {A V : Type 0} → RouteWalk A V → List (Net A × V)
route_walk_left (routes.Rows left) = left.now
route_walk_left (routes.Prefixes left) = left
