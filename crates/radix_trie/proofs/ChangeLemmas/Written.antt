-- What a value that is written in its place does to the map, and to what the trie keeps.
use Rattle.std.proofs.Common.{◌≡◌, ◌⊎◌, inl, ℕ, suc, ◌<◌, ◌^◌, List, [], ◌∷◌, ◌++◌, map, length, Option, Some, option_map, MatchOption, MutBor, refl, ap, sym, subst, ◌∙◌}
use Rattle.std.proofs.lemmas.List.{length-map}
use Rattle.std.specs.FinMap as fin
use Rattle.std.specs.Option.{IfSome}
use Rattle.masked_tree.specs.Alters.{entry_at, AltersRoot}
use Rattle.masked_tree.specs.Tree.{Tree, entries_at}
use Rattle.nibble_map.specs.Maps.{value_at, with_value, set_value}
use Rattle.radix_nodes.specs.declared.trie_node.KeyValue.{KeyValue}
use Rattle.radix_nodes.specs.declared.trie_node.TrieNode.{TrieNode}
use Rattle.radix_nodes.specs.Nodes.{tree_of, fragment_of}
use Rattle.radix_nodes.specs.Lending.{Revalues, IsLike, keys_of}
use Rattle.radix_nodes.specs.Lending as lending
use Rattle.radix_trie.specs.Roots.{map_of, AllKeyed, IsKept}
use Rattle.radix_trie.proofs.ChangeLemmas.Changes.{append-root_fragment, map_of-edit, get-before_edit}
use Rattle.radix_trie.proofs.RootLemmas.Shown.{row_of, entries_of-root}

-- a match on an option that is Some x holds where its case for x does
pub match_some : {A : Type 0} (o : Option A) (x : A) (P : Type 0) (Q : A → Type 0) → o ≡ Some x → Q x → MatchOption o P Q
match_some o x P Q e q = rw e q

-- the same name with two functions that agree at each value
pub same_after : {N A B C : Type 0} (n : N) (f g : A → B) → ((w : A) → f w ≡ g w) → ◌≡◌ {A = (N × (A → B)) ⊎ C} (inl (n, f)) (inl (n, g))
same_after n f g e = λ i. inl (n, λ w. e w i)

module _ {K V : Type 0} where
  -- a value written behind the root's fragment is one written at the list itself
  pub revalued_at : (root : TrieNode K V) (new : Tree (KeyValue K V)) (list : List ℕ) (r : Option (MutBor V)) (x : MutBor V) (w : V) → (tree_of root).fragment ≡ [] → r ≡ Some x
      → IfSome r (λ x. Revalues (fragment_of root ++ list) x.now w (tree_of root) new) → Revalues list x.now w (tree_of root) new
  revalued_at root new list r x w top is h =
      subst (λ p. Revalues p x.now w (tree_of root) new) (append-root_fragment root list list top refl)
      (subst (λ (o : Option (MutBor V)). IfSome o (λ x. Revalues (fragment_of root ++ list) x.now w (tree_of root) new)) is h)

module _ {K V : Type 0} (enc : K → List ℕ) where
  -- entries with the lists and keys of keyed ones are keyed
  keyed_like : (es ds : List (List ℕ × KeyValue K V)) → keys_of ds ≡ keys_of es → AllKeyed enc (map row_of es) → AllKeyed enc (map row_of ds)
  keyed_like [] [] i h = tt
  keyed_like [] (d ∷ ds) i h = absurd (let j : lending.keyed d ∷ keys_of ds ≡ [] = i in cc j)
  keyed_like (e ∷ es) [] i h = absurd (let j : [] ≡ lending.keyed e ∷ keys_of es = i in cc j)
  keyed_like (e ∷ es) (d ∷ ds) i h = (
    ap (λ (z : List ℕ × K). z.0) heads ∙ h.0 ∙ ap (λ (z : List ℕ × K). enc z.1) (sym heads),
    subst (λ p. length p < 2 ^ 64) (ap (λ (z : List ℕ × K). z.0) (sym heads)) h.1,
    keyed_like es ds tails h.2,
  )
    where
      heads : lending.keyed d ≡ lending.keyed e
      heads = let j : lending.keyed d ∷ keys_of ds ≡ lending.keyed e ∷ keys_of es = i in cc j

      tails : keys_of ds ≡ keys_of es
      tails = let j : lending.keyed d ∷ keys_of ds ≡ lending.keyed e ∷ keys_of es = i in cc j

  module _ (old new : Tree (KeyValue K V)) (count nodes nibbles : ℕ) (kept : IsKept enc old count nodes nibbles) where
    -- entries with the same lists and keys are as many
    same_length : (es ds : List (List ℕ × KeyValue K V)) → keys_of ds ≡ keys_of es → length (map row_of ds) ≡ length (map row_of es)
    same_length es ds i = length-map ds row_of ∙ sym (length-map ds lending.keyed) ∙ ap length i ∙ length-map es lending.keyed ∙ sym (length-map es row_of)

    -- whatever values are written, the trie keeps what it kept
    pub like_kept : IsLike old new → IsKept enc new count nodes nibbles
    like_kept like = let top = like.fragment ∙ kept.top in record {
      top = top;
      masked = like.placed kept.masked;
      full = like.below kept.full;
      keyed = subst (AllKeyed enc) (sym (entries_of-root new top)) (keyed_like (entries_at [] old) (entries_at [] new) (like.keys []) (subst (AllKeyed enc) (entries_of-root old kept.top) kept.keyed));
      counted = ap length (entries_of-root new top) ∙ same_length (entries_at [] old) (entries_at [] new) (like.keys []) ∙ ap length (sym (entries_of-root old kept.top)) ∙ kept.counted;
      noded = ap suc like.nodes ∙ kept.noded;
      nibbled = like.nibbles ∙ kept.nibbled;
    }

    -- a tree that differs in no value has the same map
    pub map_of-unchanged : lending.IsUnwritten old new → map_of new ≡ map_of old
    map_of-unchanged k =
        ap fin.from_sorted (entries_of-root new (k.like.fragment ∙ kept.top) ∙ ap (map row_of) (k.same []) ∙ sym (entries_of-root old kept.top))

    module _ (q : List ℕ) (v w : V) (r : Revalues q v w old new) where
      -- the root was changed at q, from the key with v to the key with w
      value_changed : AltersRoot (entry_at q (Some (record { key = r.key; value = v }))) (entry_at q (Some (record { key = r.key; value = w }))) 0 0 0 0 old new
      value_changed = r.alters.root

      -- the old map has the key with v at q
      get-changed : fin.get (map_of old) q ≡ Some (r.key, v)
      get-changed = get-before_edit enc old new count nodes nibbles q (record { key = r.key; value = w }) (Some (record { key = r.key; value = v })) 0 0 kept value_changed

      -- the value that was written over is the old map's at the list
      pub value_at-before_revalued : value_at (map_of old) q ≡ Some v
      value_at-before_revalued = ap (option_map (λ p. p.1)) get-changed

      -- after the write the map is the old one with the new value at the list
      pub map_of-revalued : map_of new ≡ with_value (map_of old) q w
      map_of-revalued =
          map_of-edit enc old new count nodes nibbles q (record { key = r.key; value = w }) (Some (record { key = r.key; value = v })) 0 0 kept value_changed
          ∙ ap (set_value (map_of old) q w) (sym get-changed)
