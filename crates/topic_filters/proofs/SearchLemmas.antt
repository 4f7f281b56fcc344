-- What the search for the filters of a topic still looks for, turn by turn.
use Rattle.std.proofs.Common.{◌≡◌, ◌∙◌, ℕ, ◌+◌, List, [], ◌∷◌, ◌++◌, map, cond, true, false, Option, Some, None, Bor, nat_cmp, refl, sym, ap, append-nil, append_assoc, arith}
use Rattle.std.specs.Cmp.Lexicographic.{slice_cmp}
use Rattle.std.specs.FinMap as finite
use Rattle.std.specs.Prelude.{option_to_list}
use Rattle.std.proofs.lemmas.Grind.{flat_map-append}
use Rattle.nibble_map.specs.Maps.{PairMap}
use Rattle.nibble_map.specs.Nibbles.{nibbles}
use Rattle.nibble_map.proofs.ListLemmas.Cut.{cons_head, cons_tail}
use Rattle.radix_keys.specs.Parts.{part_bytes}
use Rattle.radix_keys.proofs.NibbleLemmas.Bytes.{nibbles-append}
use Rattle.topic_filters.proofs.StoredLemmas.{stored_behind, stored_behind-longer, stored_behind-step, stored_behind-top}
use Rattle.topic_filters.specs.Filters.{Levels, any_level, any_rest, filters_of, filters_of_levels, filters_of_reserved, is_reserved, stored_at}
use Rattle.topic_filters.specs.Search.{all_turns, all_wanted, held, held_behind, level_list, level_lists, turns_at, wanted}
use Rattle.topic_filters.specs.declared.search.Pending.{Pending}

-- a filter's encoding goes on by what its next level is
longer_encoding : (p : Levels) (t : List ℕ) → nibbles (part_bytes (p ++ t ∷ [])) ≡ nibbles (part_bytes p) ++ level_list t
longer_encoding p t = ap nibbles (flat_map-append (λ part. part ++ 0 ∷ []) p (t ∷ [])) ∙ nibbles-append (part_bytes p) (part_bytes (t ∷ []))

module _ {K V : Type 0} where
  -- what is put at the end is looked for first
  pub all_wanted-push : (es : List (Pending K V)) (e : Pending K V) → all_wanted (es ++ e ∷ []) ≡ wanted e.at e.levels ++ all_wanted es
  all_wanted-push [] e = sym (append-nil (wanted e.at e.levels))
  all_wanted-push (x ∷ es) e =
      ap (λ xs. xs ++ wanted x.at x.levels) (all_wanted-push es e) ∙ append_assoc (wanted e.at e.levels) (all_wanted es) (wanted x.at x.levels)

  pub all_turns-push : (es : List (Pending K V)) (e : Pending K V) → all_turns (es ++ e ∷ []) ≡ all_turns es + turns_at e.levels
  all_turns-push [] e = refl
  all_turns-push (x ∷ es) e = let rest = all_turns-push es e in omega (arith, rest)

  -- nothing is wanted of an empty map
  held_behind-none : (m : PairMap K V) → ((q : List ℕ) → finite.get m q ≡ None) → (q : List ℕ) (ls : List (List ℕ)) → held_behind m q ls ≡ []
  held_behind-none m none q [] = λ i. option_to_list (none q i) ++ option_to_list (none (q ++ level_list any_rest) i)
  held_behind-none m none q (l ∷ ls) =
      λ i. held_behind-none m none (q ++ l) ls i ++ (held_behind-none m none (q ++ level_list any_level) ls i ++ option_to_list (none (q ++ level_list any_rest) i))

  pub none_wanted : (m : PairMap K V) (levels : Option (Bor (List (List ℕ)))) → finite.len m ≡ 0 → wanted m levels ≡ []
  none_wanted m levels empty = by levels
    where
      none : (q : List ℕ) → finite.get m q ≡ None
      none q = ap (λ n. finite.get n q) (finite.empty_of_len m empty) ∙ finite.get-empty (slice_cmp nat_cmp) q

      by : (levels : Option (Bor (List (List ℕ)))) → wanted m levels ≡ []
      by None = ap option_to_list (none [])
      by (Some ls) = held_behind-none m none [] ls.now

  module _ (m : PairMap K V) where
    module _ (n : PairMap K V) (l : List ℕ) (on : (q : List ℕ) → finite.get n q ≡ finite.get m (l ++ q)) where
      -- what is wanted after a list was gone on by is what was wanted behind it
      pub held-on : held n [] ≡ held m l
      held-on = ap option_to_list (on [] ∙ ap (finite.get m) (append-nil l))

      held_behind-further : (q : List ℕ) (ls : List (List ℕ)) → held_behind n q ls ≡ held_behind m (l ++ q) ls
      held_behind-further q [] =
          λ i. option_to_list (on q i) ++ option_to_list ((on (q ++ level_list any_rest) ∙ ap (finite.get m) (sym (append_assoc l q (level_list any_rest)))) i)
      held_behind-further q (k ∷ ls) = λ i.
          (held_behind-further (q ++ k) ls ∙ ap (λ p. held_behind m p ls) (sym (append_assoc l q k))) i
          ++ ((held_behind-further (q ++ level_list any_level) ls ∙ ap (λ p. held_behind m p ls) (sym (append_assoc l q (level_list any_level)))) i
          ++ option_to_list ((on (q ++ level_list any_rest) ∙ ap (finite.get m) (sym (append_assoc l q (level_list any_rest)))) i))

      pub held_behind-on : (ls : List (List ℕ)) → held_behind n [] ls ≡ held_behind m l ls
      held_behind-on ls = held_behind-further [] ls ∙ ap (λ p. held_behind m p ls) (append-nil l)

    -- the pairs behind a path, by its levels' lists, are those at the filters behind its levels
    pub held_behind-filters : (p : Levels) (ts : Levels) → held_behind m (nibbles (part_bytes p)) (level_lists ts) ≡ stored_behind m p (filters_of_levels ts)
    held_behind-filters p [] = λ i.
        held m (nibbles (part_bytes (sym (append-nil p) i)))
        ++ (ap (held m) (sym (longer_encoding p any_rest)) ∙ sym (append-nil (held m (nibbles (part_bytes (p ++ any_rest ∷ [])))))) i
    held_behind-filters p (t ∷ ts) =
        (λ i. (ap (λ q. held_behind m q (level_lists ts)) (sym (longer_encoding p t)) ∙ held_behind-filters (p ++ t ∷ []) ts) i
        ++ ((ap (λ q. held_behind m q (level_lists ts)) (sym (longer_encoding p any_level)) ∙ held_behind-filters (p ++ any_level ∷ []) ts) i
        ++ (ap (held m) (sym (longer_encoding p any_rest)) ∙ sym (append-nil (held m (nibbles (part_bytes (p ++ any_rest ∷ [])))))) i))
        ∙ sym (append_assoc (stored_behind m (p ++ t ∷ []) (filters_of_levels ts)) (stored_behind m (p ++ any_level ∷ []) (filters_of_levels ts)) (stored_at m ((p ++ any_rest ∷ []) ∷ [])))
        ∙ sym (stored_behind-step m p t ts)

    -- so behind no level, of a topic that isn't reserved
    pub plain_topic : (ts : Levels) → is_reserved ts ≡ false → held_behind m [] (level_lists ts) ≡ stored_at m (filters_of ts)
    plain_topic ts plain =
        let fs = filters_of_levels ts in
        held_behind-filters [] ts ∙ stored_behind-top m fs ∙ sym (ap (λ b. stored_at m (cond b (filters_of_reserved ts) fs)) plain)

    -- and behind the first level of one that is
    pub reserved_topic : (ts : Levels) (l : List ℕ) (ls : List (List ℕ)) → is_reserved ts ≡ true → l ∷ ls ≡ level_lists ts → held_behind m l ls ≡ stored_at m (filters_of ts)
    reserved_topic [] l ls is e = let never : l ∷ ls ≡ [] = e in cc
    reserved_topic (t ∷ ts) l ls is e =
        let fs = filters_of_levels ts in
        (λ i. held_behind m (cons_head e i) (cons_tail e i))
        ∙ held_behind-filters (t ∷ []) ts
        ∙ sym (stored_behind-longer m [] t fs)
        ∙ stored_behind-top m (map (λ f. t ∷ f) fs)
        ∙ sym (ap (λ b. stored_at m (cond b (filters_of_reserved (t ∷ ts)) (filters_of_levels (t ∷ ts)))) is)
