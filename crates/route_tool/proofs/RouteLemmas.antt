-- What the lists of a trie say of its networks.
use Rattle.std.proofs.Common.{◌≡◌, ℕ, ◌^◌, ◌<◌, List, Option, Some, None, Result, Ok, Err, OnOk, OnErr, is_some, T, length, arith, sym, ap, subst}
use Rattle.std.specs.FinMap as map
use Rattle.nibble_map.specs.Lists.{IsPrefix}
use Rattle.nibble_map.specs.Maps.{IsStored}
use Rattle.radix_keys.specs.Bits.{first_bits}
use Rattle.radix_keys.specs.Networks.{IsBase}
use Rattle.radix_keys.proofs.BitLemmas.{first_bits_prefix, length-first_bits}
use Rattle.radix_trie.specs.Keys.{IsKeyed}
use Rattle.radix_trie.specs.Views.{IsPairAbove}
use Rattle.route_tool.specs.Routes.{Route, Routes, IsHolder, IsLongestRoute, place}

-- what holds of a value holds after a call that changed it so, or not at all
pub kept : {M X E V : Type 0} (P : M → Type 0) (r : Result X E) (old changed new : M) → P old → (V → P changed) → OnOk r V → OnOk r (new ≡ changed) → OnErr r (new ≡ old) → P new
kept P (Ok x) old changed new before after value is same = subst P (sym is) (after value)
kept P (Err e) old changed new before after value is same = subst P (sym same) before

-- where a map gives a pair, it has one
stored_of_get : {A : Type 0} (m : Routes A) (e : List ℕ) (r : Route A) → map.get m e ≡ Some r → IsStored m e
stored_of_get {A = A} m e r is = subst (λ (o : Option (Route A)). T (is_some o)) (sym is) tt

module _ {A : Type 0} (w : ℕ) (number : A → ℕ) (m : Routes A) (keyed : IsKeyed (place w number) (λ net. IsBase w net.bits (number net.base)) m) (n : ℕ) (fits : n < 2 ^ w) where
  -- the bits of a network that holds an address begin the address's
  holder_above : (r : Route A) → IsHolder w number m n r → IsPrefix (place w number r.0) (first_bits w n w)
  holder_above r h = (first_bits_prefix w (number r.0.base) n r.0.bits w h.base.0 fits h.base.1 (omega arith)).1 h.holds

  -- the pair at the longest stored list above an address's bits is the longest network that holds it
  pub longest : (found : Option (Route A)) → IsPairAbove m (first_bits w n w) found → IsLongestRoute w number m n found
  longest None (None, none, e) = λ r h. none (place w number r.0) (stored_of_get m (place w number r.0) r h.stored) (holder_above r h)
  longest (Some r) (None, none, e) = cc
  longest None (Some p, is, e) = absurd (subst (λ (o : Option (Route A)). T (is_some o)) (sym e) is.member)
  longest (Some r) (Some p, is, e) =
      let key = keyed p r (sym e) in (
        record {
          stored = subst (λ q. map.get m q ≡ Some r) key.0 (sym e);
          base = key.1;
          holds = (first_bits_prefix w (number r.0.base) n r.0.bits w key.1.0 fits key.1.1 (omega arith)).0 (subst (λ q. IsPrefix q (first_bits w n w)) key.0 is.above);
        },
        λ s h.
            let most = is.longest (place w number s.0) (stored_of_get m (place w number s.0) s h.stored) (holder_above s h) in
            omega (arith, most, ap length key.0, key.1.1, h.base.1, length-first_bits w (number s.0.base) s.0.bits, length-first_bits w (number r.0.base) r.0.bits),
      )
