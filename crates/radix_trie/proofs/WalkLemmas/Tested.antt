-- The pairs of the entries whose lists pass a test, over a tree.
use Rattle.std.proofs.Common.{◌≡◌, ℕ, ◌≤◌, Bool, true, false, cond, List, [], ◌∷◌, ◌++◌, filter, length, Option, Some, None, refl, ap, sym, ◌∙◌, append_assoc, append-nil, arith}
use Rattle.std.proofs.lemmas.List.Elements.{filter-append}
use Rattle.masked_tree.specs.Tree.{Tree, Children, none, more, entries_in, entries_at}
use Rattle.nibble_map.specs.Swaps.{entry}
use Rattle.radix_nodes.specs.declared.trie_node.KeyValue.{KeyValue}
use Rattle.radix_nodes.specs.Pairs.{pairs_in, pairs_of}
use Rattle.radix_nodes.proofs.NodeLemmas.Pairs.{length-pairs_of, pairs_of-append, pairs_of-entries_of_node}
use Rattle.radix_trie.specs.Walks.{pairs_where}
use Rattle.radix_trie.proofs.PathLemmas.Loci.{length-filter_le}

module _ {K V : Type 0} where
  -- a test that all lists pass keeps all pairs
  where_true : (es : List (List ℕ × KeyValue K V)) → pairs_where (λ _. true) es ≡ pairs_of es
  where_true [] = refl
  where_true (e ∷ es) = ap (λ ps. pairs_of (e ∷ []) ++ ps) (where_true es)

  -- a test that no list passes keeps no pair
  where_false : (es : List (List ℕ × KeyValue K V)) → pairs_where (λ _. false) es ≡ []
  where_false [] = refl
  where_false (e ∷ es) = where_false es

  -- the pairs of two runs of entries
  pub where-append : (test : List ℕ → Bool) (es fs : List (List ℕ × KeyValue K V)) → pairs_where test (es ++ fs) ≡ pairs_where test es ++ pairs_where test fs
  where-append test es fs =
      ap pairs_of (filter-append (λ (e : List ℕ × KeyValue K V). test e.0) es fs)
      ∙ pairs_of-append (filter (λ (e : List ℕ × KeyValue K V). test e.0) es) (filter (λ (e : List ℕ × KeyValue K V). test e.0) fs)

  -- the pairs of a first child and of others: its own, those below it, those of the others
  pub where-more : (test : List ℕ → Bool) (q f : List ℕ) (o : Option (KeyValue K V)) (m : ℕ) (children others : Children (KeyValue K V))
      → pairs_where test (entries_in q (more f o m children others))
      ≡ (pairs_where test (entry (q ++ f) o) ++ pairs_where test (entries_in (q ++ f) children)) ++ pairs_where test (entries_in q others)
  where-more test q f o m children others =
      where-append test (entry (q ++ f) o ++ entries_in (q ++ f) children) (entries_in q others)
      ∙ ap (λ ps. ps ++ pairs_where test (entries_in q others)) (where-append test (entry (q ++ f) o) (entries_in (q ++ f) children))

  -- one test answers behind p as another does
  module _ (test other : List ℕ → Bool) (p : List ℕ) (alike : (y : List ℕ) → test (p ++ y) ≡ other y) where
    -- the pair of an entry behind p
    own_behind : (q : List ℕ) (o : Option (KeyValue K V)) → pairs_where test (entry (p ++ q) o) ≡ pairs_where other (entry q o)
    own_behind q None = refl
    own_behind q (Some x) = ap (λ b. pairs_of (cond b ((p ++ q, x) ∷ []) [])) (alike q) ∙ by (other q)
      where
        by : (b : Bool) → pairs_of (cond b ((p ++ q, x) ∷ []) []) ≡ pairs_of (cond b ((q, x) ∷ []) [])
        by true = refl
        by false = refl

    -- the pairs below some children behind p
    all_behind : (q : List ℕ) (k : Children (KeyValue K V)) → pairs_where test (entries_in (p ++ q) k) ≡ pairs_where other (entries_in q k)
    all_behind q none = refl
    all_behind q (more f o m children others) =
        where-more test (p ++ q) f o m children others
        ∙ ap (λ x. (pairs_where test (entry x o) ++ pairs_where test (entries_in x children)) ++ pairs_where test (entries_in (p ++ q) others)) (append_assoc p q f)
        ∙ (λ i. (own_behind (q ++ f) o i ++ all_behind (q ++ f) children i) ++ all_behind q others i)
        ∙ sym (where-more other q f o m children others)

    -- the pairs at p and below it
    pub where_behind : (o : Option (KeyValue K V)) (k : Children (KeyValue K V)) → pairs_where test (entry p o ++ entries_in p k) ≡ pairs_where other (entry [] o ++ entries_in [] k)
    where_behind o k =
        ap (λ x. pairs_where test (entry x o ++ entries_in x k)) (sym (append-nil p))
        ∙ where-append test (entry (p ++ []) o) (entries_in (p ++ []) k)
        ∙ (λ i. own_behind [] o i ++ all_behind [] k i)
        ∙ sym (where-append other (entry [] o) (entries_in [] k))

  -- at a path p behind which each list passes a test, the test keeps all pairs
  pub where_kept : (test : List ℕ → Bool) (p : List ℕ) (t : Tree (KeyValue K V)) → ((y : List ℕ) → test (p ++ y) ≡ true) → pairs_where test (entry p t.pair ++ entries_in p t.children) ≡ pairs_in t
  where_kept test p t kept =
      where_behind test (λ _. true) p kept t.pair t.children ∙ where_true (entry [] t.pair ++ entries_in [] t.children) ∙ pairs_of-entries_of_node [] t

  -- at a path p behind which no list passes a test, the test keeps no pair
  pub where_gone : (test : List ℕ → Bool) (p : List ℕ) (t : Tree (KeyValue K V)) → ((y : List ℕ) → test (p ++ y) ≡ false) → pairs_where test (entry p t.pair ++ entries_in p t.children) ≡ []
  where_gone test p t gone = where_behind test (λ _. false) p gone t.pair t.children ∙ where_false (entry [] t.pair ++ entries_in [] t.children)

  -- no more pairs pass a test than there are
  pub few_where : (test : List ℕ → Bool) (t : Tree (KeyValue K V)) → length (pairs_where test (entry [] t.pair ++ entries_in [] t.children)) ≤ length (entries_at [] t)
  few_where test t =
      let es = entry [] t.pair ++ entries_in [] t.children in
      let kept = filter (λ e. test e.0) es in
      omega (arith, length-pairs_of kept, length-filter_le (λ e. test e.0) es, length-pairs_of es, ap length (pairs_of-entries_of_node [] t), length-pairs_of (entries_at [] t))
