-- An object that is built member by member, and a trie that is built from an object.
use Rattle.std.proofs.Common.{◌≡◌, ℕ, ◌+◌, ◌≤◌, Bool, true, false, List, [], ◌∷◌, ◌++◌, map, cond, is_eq, Option, Some, option_map, String, Global, Ordering, Less, Equal, Greater, nat_cmp, string_bytes, string_cmp, refl, sym, ◌∙◌, ap, subst, append_assoc, arith}
use Rattle.std.proofs.lemmas.Cmp.{nat_list_cmp_total}
use Rattle.std.proofs.lemmas.List.{append-nil}
use Rattle.std.specs.Cmp.Lexicographic.{slice_cmp}
use Rattle.std.specs.FinMap as fin
use Rattle.std.specs.FinMap.{find, put}
use Rattle.std.specs.FinMap.Entries.{by_order}
use Rattle.std.specs.List.Sorted.{IsStrictlySortedBy}
use Rattle.std.specs.Map.{keys_of}
use Rattle.std.specs.Ordering.{match_ordering}
use Rattle.serde_json.specs.Data.{Data, Members, no_members, member, put as with_member}
use Rattle.serde_json.specs.Find.{get, get_member}
use Rattle.serde_json.specs.View.{view, members_view}
use Rattle.serde_json.specs.declared.value.Value.{Value}
use Rattle.serde_json.proofs.Views.{put_last}
use Rattle.nibble_map.specs.Maps.{PairMap, value_at}
use Rattle.nibble_map.specs.Nibbles.{nibbles}
use Rattle.nibble_map.proofs.ListLemmas.Cut.{empty_of_length}
use Rattle.nibble_map.proofs.ListLemmas.Sorted.{tied_lists_equal}
use Rattle.radix_trie.specs.Json.{object_of}
use Rattle.radix_trie.proofs.JsonLemmas.Texts.{text_encoding, slice_cmp-nibbles, AreTexts}

-- texts, each with a value
abbrev Pairs : Type 0
Pairs = List (String Global × Value)

-- the members, with each pair put in
abbrev pub put_all : Pairs → Members → Members
put_all [] ms = ms
put_all (e ∷ es) ms = put_all es (with_member (string_bytes e.0) (view e.1) ms)

-- pairs put in behind others, all in the order of their texts, become the members as they stand
put_rest : (done es : Pairs) → IsStrictlySortedBy string_cmp (keys_of (done ++ es)) → put_all es (members_view done) ≡ members_view (done ++ es)
put_rest done [] h = ap members_view (sym (append-nil done))
put_rest done (e ∷ es) h =
    rw (put_last done e es h)
    (put_rest (done ++ e ∷ []) es (subst (λ l. IsStrictlySortedBy string_cmp (keys_of l)) (sym (append_assoc done (e ∷ []) es)) h)
    ∙ ap members_view (append_assoc done (e ∷ []) es))

-- pairs in the order of their texts become the members as they stand
pub put_all_is : (es : Pairs) → IsStrictlySortedBy string_cmp (keys_of es) → put_all es no_members ≡ members_view es
put_all_is es h = put_rest [] es h

-- pairs of a text and a value, each at a list
abbrev Rows : Type 0
Rows = List (List ℕ × (String Global × Value))

-- the pairs without their lists
abbrev pairs_in : Rows → Pairs
pairs_in es = map (λ e. e.1) es

module _ (k : String Global) (v : Value) where
  -- the rows with the pair of k and v put in at the encoding of k
  abbrev with_row : Rows → Rows
  with_row es = put (slice_cmp nat_cmp) (text_encoding k) (k, v) es

  -- the order of the encodings is that of the texts
  abbrev slice_cmp-texts : (e : List ℕ × (String Global × Value)) → e.0 ≡ text_encoding e.1.0 → slice_cmp nat_cmp (text_encoding k) e.0 ≡ slice_cmp nat_cmp (string_bytes k) (string_bytes e.1.0)
  slice_cmp-texts e h = ap (slice_cmp nat_cmp (text_encoding k)) h ∙ slice_cmp-nibbles (string_bytes k) (string_bytes e.1.0)

  -- what is put in before, at or after the first of some rows, by the order of their texts
  module _ (e : List ℕ × (String Global × Value)) (es : Rows) where
    -- the rows with the pair of k and v put in, by how k compares with the first row's text
    abbrev row_by : Ordering → Rows
    row_by o = by_order o ((text_encoding k, (k, v)) ∷ e ∷ es) ((e.0, (k, v)) ∷ es) (e ∷ with_row es)

    -- the members of the pairs, with k and v put in
    abbrev put_in : Pairs → Members
    put_in ps = with_member (string_bytes k) (view v) (members_view ps)

    -- the members with k and v put in, by how k compares with the first one's name
    abbrev members_by : Ordering → Members
    members_by o =
        match_ordering o (member (string_bytes k) (view v) (members_view (pairs_in (e ∷ es)))) (member (string_bytes e.1.0) (view v) (members_view (pairs_in es)))
        (member (string_bytes e.1.0) (view e.1.1) (put_in (pairs_in es)))

    -- however k compares with the first row's text, the rows' members are the members by that
    member_placed : (o : Ordering) → slice_cmp nat_cmp (string_bytes k) (string_bytes e.1.0) ≡ o → members_view (pairs_in (with_row es)) ≡ put_in (pairs_in es)
        → members_view (pairs_in (row_by o)) ≡ members_by o
    member_placed Less i later = refl
    member_placed Equal i later = ap (λ t. member t (view v) (members_view (pairs_in es))) (tied_lists_equal (string_bytes k) (string_bytes e.1.0) i)
    member_placed Greater i later = ap (member (string_bytes e.1.0) (view e.1.1)) later

  -- the members of rows with a pair put in are the members with the pair put in
  put_row : (es : Rows) → AreTexts es → members_view (pairs_in (with_row es)) ≡ with_member (string_bytes k) (view v) (members_view (pairs_in es))
  put_row [] h = refl
  put_row (e ∷ es) h = ap (λ r. members_view (pairs_in (row_by e es r))) (slice_cmp-texts e h.0) ∙ member_placed e es (slice_cmp nat_cmp (string_bytes k) (string_bytes e.1.0)) refl (put_row es h.1)

  -- rows at their texts' encodings stay so with a pair put in
  texts_row : (es : Rows) → AreTexts es → AreTexts (with_row es)
  texts_row [] h = (refl, tt)
  texts_row (e ∷ es) h = by (slice_cmp nat_cmp (text_encoding k) e.0) refl (texts_row es h.1)
    where
      by : (o : Ordering) → slice_cmp nat_cmp (text_encoding k) e.0 ≡ o → AreTexts (with_row es)
          → AreTexts (by_order o ((text_encoding k, (k, v)) ∷ e ∷ es) ((e.0, (k, v)) ∷ es) (e ∷ with_row es))
      by Less i later = (refl, h)
      by Equal i later = (sym (tied_lists_equal (text_encoding k) e.0 i), h.1)
      by Greater i later = (h.0, later)

  module _ (m : PairMap (String Global) Value) (texts : AreTexts (fin.entries m)) where
    -- what is inserted into a trie is put into its object
    pub members_view-insert : members_view (fin.values (fin.insert m (text_encoding k) (k, v))) ≡ with_member (string_bytes k) (view v) (members_view (fin.values m))
    members_view-insert = ap (λ es. members_view (pairs_in es)) (fin.entries-insert nat_list_cmp_total m (text_encoding k) (k, v)) ∙ put_row (fin.entries m) texts

    -- a map with each pair at its text's encoding stays so where k is inserted with a value
    pub texts_inserted : AreTexts (fin.entries (fin.insert m (text_encoding k) (k, v)))
    texts_inserted = subst AreTexts (sym (fin.entries-insert nat_list_cmp_total m (text_encoding k) (k, v))) (texts_row (fin.entries m) texts)

-- an insertion adds at most one
pub len-insert-le : (m : PairMap (String Global) Value) (e : List ℕ) (p : String Global × Value) → fin.len (fin.insert m e p) ≤ fin.len m + 1
len-insert-le m e p = rw (fin.len-insert nat_list_cmp_total m e p) (by (fin.contains_key m e))
  where
    by : (b : Bool) → cond b (fin.len m) (fin.len m + 1) ≤ fin.len m + 1
    by true = omega arith
    by false = omega arith

module _ (m : PairMap (String Global) Value) (is : m ≡ fin.empty) where
  -- the empty map has no entries
  no_entries : fin.entries m ≡ []
  no_entries = empty_of_length (fin.entries m) (sym (fin.len-entries m) ∙ ap fin.len is ∙ fin.len-empty _ _)

  -- each pair of the empty map stands at its text's encoding
  pub texts_empty : AreTexts (fin.entries m)
  texts_empty = subst AreTexts (sym no_entries) tt

  -- the empty trie has the empty object
  pub members_view-empty : members_view (fin.values m) ≡ no_members
  members_view-empty = ap (λ es. members_view (pairs_in es)) no_entries

-- a search that stops where texts are equal finds the same among pairs as among members
found_by : (o : Ordering) (p : String Global × Value) (rest : Option (String Global × Value)) (d : Option Data) → option_map view (option_map (λ q. q.1) rest) ≡ d
    → option_map view (option_map (λ q. q.1) (cond (is_eq o) (Some p) rest)) ≡ match_ordering o d (Some (view p.1)) d
found_by Less p rest d e = e
found_by Equal p rest d e = refl
found_by Greater p rest d e = e

-- the value at a text's encoding among rows is the member of that name
found_row : (text : List ℕ) (es : Rows) → AreTexts es → option_map view (option_map (λ q. q.1) (find (slice_cmp nat_cmp) (nibbles text) es)) ≡ get_member text (members_view (pairs_in es))
found_row text [] h = refl
found_row text (e ∷ es) h =
    let rest = find (slice_cmp nat_cmp) (nibbles text) es in
    ap (λ o. option_map view (option_map (λ q. q.1) (cond (is_eq o) (Some e.1) rest))) (ap (slice_cmp nat_cmp (nibbles text)) h.0 ∙ slice_cmp-nibbles text (string_bytes e.1.0))
    ∙ found_by (slice_cmp nat_cmp text (string_bytes e.1.0)) e.1 rest _ (found_row text es h.1)

-- the value at a text is the object's member of that name
pub get-object_of : (m : PairMap (String Global) Value) → AreTexts (fin.entries m) → (text : List ℕ) → get text (object_of m) ≡ option_map view (value_at m (nibbles text))
get-object_of m texts text = sym (ap (λ o. option_map view (option_map (λ q. q.1) o)) (fin.get-entries m (nibbles text)) ∙ found_row text (fin.entries m) texts)
