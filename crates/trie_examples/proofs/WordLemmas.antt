-- What the words of contracts tell, over plain variables.
use Rattle.std.proofs.Common.{◌≡◌, inl, inr, ℕ, List, [], ◌∷◌, ◌++◌, length, Option, None, Some, T, is_some, option_map, refl, ap, sym, subst, ◌∙◌, arith}
use Rattle.std.proofs.lemmas.List.{length-append}
use Rattle.std.specs.FinMap as map
use Rattle.nibble_map.specs.Maps.{PairMap}
use Rattle.radix_trie.specs.Commands.{Step, Steps, at_start, then_step}
use Rattle.radix_trie.specs.declared.commands.Command.{Command}
use Rattle.radix_trie.specs.declared.commands.Command.TheVariants.{Insert}
use Rattle.radix_trie.specs.declared.commands.Reply.{Reply}
use Rattle.radix_trie.specs.declared.commands.Reply.TheVariants.{Old}
use Rattle.radix_trie.specs.Values.{ChangesEachPair}
use Rattle.keyed_maps.specs.KeyedMaps.{keyed_map}
use Rattle.keyed_maps.proofs.KeyLemmas.{value_pair}

module _ {K V : Type 0} where
  -- where one call changes the value of a pair p to f p, so does the change of all values to each of them
  pub each_changed : (R : K × V → V → Type 0) (f : K × V → V) (m n : PairMap K V) → ChangesEachPair R m n
      → (e : List ℕ) → ((p : K × V) (w : V) → map.get m e ≡ Some p → R p w → w ≡ f p)
      → map.get n e ≡ option_map (λ p. (p.0, f p)) (map.get m e)
  each_changed R f m n changed e by = cases (map.get m e) (map.get n e) refl refl
    where
      cases : (o r : Option (K × V)) → map.get m e ≡ o → map.get n e ≡ r → map.get n e ≡ option_map (λ p. (p.0, f p)) (map.get m e)
      cases None None was is = rw was (rw is refl)
      cases None (Some q) was is = absurd (subst (λ o. T (is_some o)) was ((changed.same_lists e).1 (subst (λ o. T (is_some o)) (sym is) tt)))
      cases (Some p) None was is = absurd (subst (λ o. T (is_some o)) is ((changed.same_lists e).0 (subst (λ o. T (is_some o)) (sym was) tt)))
      cases (Some p) (Some q) was is =
          let pair = changed.copied_pairs e p q was is in
          let value = by p q.1 was pair.1 in
          is ∙ ap (λ (r : K × V). Some r) (grind (arith)) ∙ sym (ap (option_map (λ p. (p.0, f p))) was)

-- the item at the end of a list of one is this one
only_one : {A : Type 0} (xs : List A) (x y : A) → xs ++ x ∷ [] ≡ y ∷ [] → (xs ≡ []) × (x ≡ y)
only_one [] x y e = (refl, cc)
only_one (z ∷ xs) x y e = absurd (omega (arith, ap length e, length-append xs (x ∷ [])))

module _ {K V : Type 0} (enc : K → List ℕ) (inline : K → Type 0) where
  -- a run of no command replies nothing, and leaves the map
  nothing_run : (m n : PairMap K V) (cs : List (Command K V)) (rs : List (Reply V)) → Steps enc inline m cs rs n → cs ≡ [] → (rs ≡ []) × (n ≡ m)
  nothing_run m n cs rs at_start none = (refl, refl)
  nothing_run m n cs rs (then_step {cs = others} c r o before step) none = absurd (omega (arith, ap length none, length-append others (c ∷ [])))

  module _ (k : K) (v w : V) (is : inline k) where
    -- an insertion by an inline key with a value replies this value
    inserted_over : (m n : PairMap K V) (r : Reply V) → keyed_map enc m k ≡ Some w → Step enc inline m (Insert k v) r n → r ≡ Old (Some w)
    inserted_over m n r has (inl (old, _, _)) = old ∙ ap Old has
    inserted_over m n r has (inr (_, refused)) = absurd (refused is (subst (λ o. T (is_some o)) (sym (value_pair (map.get m (enc k)) w has).1) tt))

    -- and so does a run of it alone
    pub run_over : (m n : PairMap K V) (cs : List (Command K V)) (rs : List (Reply V)) → keyed_map enc m k ≡ Some w → cs ≡ Insert k v ∷ [] → Steps enc inline m cs rs n → rs ≡ Old (Some w) ∷ []
    run_over m n cs rs has one at_start = absurd (omega (arith, ap length one))
    run_over m n cs rs has one (then_step {cs = others} {rs = replies} {n = middle} c r o before step) =
        let first = only_one others c (Insert k v) one in
        let start = nothing_run m middle others replies before first.0 in
        let last = subst (λ (d : Command K V). Step enc inline m d r o) first.1 (subst (λ x. Step enc inline x c r o) start.1 step) in
        rw (start.0, inserted_over m o r has last) refl
