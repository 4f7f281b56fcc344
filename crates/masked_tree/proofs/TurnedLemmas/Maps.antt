-- A root whose children's first nibbles are turned over holds the turned lists, and so does its map.
use Rattle.std.proofs.Common.{◌≡◌, ◌≢◌, ◌⊎◌, inl, inr, ℕ, suc, Bool, true, false, cond, List, [], ◌∷◌, ◌++◌, map, Option, Some, None, refl, ap, sym, subst, ◌∙◌}
use Rattle.std.proofs.lemmas.List.{map-append}
use Rattle.std.specs.Int.Bits.{bit_xor}
use Rattle.std.specs.FinMap as fin
use Rattle.masked_tree.specs.Tree.{Tree, Children, none, more, IsPlaced, IsTreePlaced, entries_in, entries_at}
use Rattle.masked_tree.specs.Same.{IsFullRoot, read_entries}
use Rattle.nibble_map.specs.Copies.{IsMapCopy}
use Rattle.nibble_map.specs.Lists.{Has}
use Rattle.nibble_map.specs.Maps.{NibbleMap, IsStored}
use Rattle.nibble_map.specs.Stored.{stored}
use Rattle.nibble_map.specs.Swaps.{entry}
use Rattle.nibble_map.specs.Trees.{first}
use Rattle.nibble_map.specs.Turned.{turned, IsTurnedCopy}
use Rattle.masked_tree.specs.Turned.{in_half, turned_half, turned_children, turned_root}
use Rattle.nibble_map.proofs.ListLemmas.Members.{Has-stored}
use Rattle.masked_tree.proofs.SameLemmas.Trees.{has_row, entries-rows_of}
use Rattle.nibble_map.proofs.MapLemmas.Edits.{has_get, stored_by_entries}
use Rattle.nibble_map.proofs.ListLemmas.Members.{Has-left, Has-right, Has-cases}
use Rattle.nibble_map.proofs.ListLemmas.Turned.{turned-turned}
use Rattle.masked_tree.proofs.TurnedLemmas.Halves.{half_of, entries_in-append}
use Rattle.masked_tree.proofs.TurnedLemmas.Trees.{turned_placed, turned_full}

-- the second entries are the first ones with their lists turned
pub record AreTurned {P : Type 0} (es ds : List (List ℕ × P)) : Type 0 where
  pub there : (e : List ℕ) (v : P) → Has es (e, v) → Has ds (turned e, v)
  pub back : (e : List ℕ) (v : P) → Has ds (e, v) → Has es (turned e, v)

module _ {P : Type 0} where
  -- an entry with its list turned over
  abbrev turned_row : List ℕ × P → List ℕ × P
  turned_row e = (turned e.0, e.1)

  -- an entry turned over twice is itself
  turned_row_twice : (e : List ℕ × P) → turned_row (turned_row e) ≡ e
  turned_row_twice e = λ i. (turned-turned e.0 i, e.1)

  -- the entries turned over one by one have the first ones' lists turned
  rows_turned : (es : List (List ℕ × P)) → AreTurned es (map turned_row es)
  rows_turned es = record { there = there es; back = back es }
    where
      there : (es : List (List ℕ × P)) (e : List ℕ) (v : P) → Has es (e, v) → Has (map turned_row es) (turned e, v)
      there [] e v h = absurd h
      there (d ∷ es) e v (inl i) = inl (ap turned_row i)
      there (d ∷ es) e v (inr h) = inr (there es e v h)

      back : (es : List (List ℕ × P)) (e : List ℕ) (v : P) → Has (map turned_row es) (e, v) → Has es (turned e, v)
      back [] e v h = absurd h
      back (d ∷ es) e v (inl i) = inl (ap turned_row i ∙ turned_row_twice d)
      back (d ∷ es) e v (inr h) = inr (back es e v h)

  -- the entry below a path with the first nibble turned over is the entry turned over
  entry_turned : (a : ℕ) (q : List ℕ) (o : Option P) → entry (bit_xor a 8 ∷ q) o ≡ map turned_row (entry (a ∷ q) o)
  entry_turned a q None = refl
  entry_turned a q (Some x) = refl

  -- the entries below a path with the first nibble turned over are the entries turned over
  entries_turned : (a : ℕ) (q : List ℕ) (k : Children P) → entries_in (bit_xor a 8 ∷ q) k ≡ map turned_row (entries_in (a ∷ q) k)
  entries_turned a q none = refl
  entries_turned a q (more f o m children others) =
      (λ i. entry_turned a (q ++ f) o i ++ entries_turned a (q ++ f) children i ++ entries_turned a q others i)
      ∙ ap (λ es. es ++ map turned_row (entries_in (a ∷ q) others)) (sym (map-append turned_row (entry (a ∷ (q ++ f)) o) (entries_in (a ∷ (q ++ f)) children)))
      ∙ sym (map-append turned_row (entry (a ∷ (q ++ f)) o ++ entries_in (a ∷ (q ++ f)) children) (entries_in (a ∷ q) others))

  -- the entries of one child
  abbrev own : List ℕ → Option P → Children P → List (List ℕ × P)
  own f o children = entry f o ++ entries_in f children

  -- a child with its first nibble turned over has its entries with their lists turned
  own_turned : (f : List ℕ) (o : Option P) (children : Children P) → f ≢ [] → AreTurned (own f o children) (own (turned f) o children)
  own_turned [] o children some = absurd (some refl)
  own_turned (a ∷ f) o children some =
      let e : own (turned (a ∷ f)) o children ≡ map turned_row (own (a ∷ f) o children) =
      (λ i. entry_turned a f o i ++ entries_turned a f children i) ∙ sym (map-append turned_row (entry (a ∷ f) o) (entries_in (a ∷ f) children)) in
      subst (AreTurned (own (a ∷ f) o children)) (sym e) (rows_turned (own (a ∷ f) o children))

  -- a child in the half, and the later ones
  -- an entry of a turned child whose nibble is in a half is in that half
  here_half : (high : Bool) (f : List ℕ) (o : Option P) (m : ℕ) (children others : Children P) (x : List ℕ × P) → in_half high (first f) ≡ true →
      Has (own (turned f) o children) x → Has (entries_in [] (turned_half high (more f o m children others))) x
  here_half high f o m children others x is h = rw is (Has-left _ _ x h)

  -- an entry in the half of the later children is in the half of all
  later_half : (high : Bool) (f : List ℕ) (o : Option P) (m : ℕ) (children others : Children P) (x : List ℕ × P) →
      Has (entries_in [] (turned_half high others)) x → Has (entries_in [] (turned_half high (more f o m children others))) x
  later_half high f o m children others x h = by (in_half high (first f))
    where
      by : (b : Bool) → Has (entries_in [] (cond b (more (turned f) o m children (turned_half high others)) (turned_half high others))) x
      by true = Has-right (own (turned f) o children) _ x h
      by false = h

  -- each entry with its list turned is in the one half or in the other
  into_halves : (low : ℕ) (k : Children P) → IsPlaced low k → (e : List ℕ) (v : P) → Has (entries_in [] k) (e, v) →
      Has (entries_in [] (turned_half true k)) (turned e, v) ⊎ Has (entries_in [] (turned_half false k)) (turned e, v)
  into_halves low none s e v h = absurd h
  into_halves low (more f o m children others) s e v h = elim (Has-cases (own f o children) (entries_in [] others) (e, v) h) [
    | inl i ↦ (let j = (own_turned f o children s.0).there e v i in elim (half_of (first f)) [
      | inl t ↦ inl (here_half true f o m children others (turned e, v) t.high j)
      | inr t ↦ inr (here_half false f o m children others (turned e, v) t.low j)
    ])
    | inr i ↦ elim (into_halves (suc (first f)) others s.4 e v i) [
      | inl j ↦ inl (later_half true f o m children others (turned e, v) j)
      | inr j ↦ inr (later_half false f o m children others (turned e, v) j)
    ]
  ]

  -- each entry of a half is one of the children's with its list turned
  from_half : (high : Bool) (low : ℕ) (k : Children P) → IsPlaced low k → (e : List ℕ) (v : P) → Has (entries_in [] (turned_half high k)) (e, v) → Has (entries_in [] k) (turned e, v)
  from_half high low none s e v h = absurd h
  from_half high low (more f o m children others) s e v h = by (in_half high (first f)) (from_half high (suc (first f)) others s.4 e v) h
    where
      by : (b : Bool) → (Has (entries_in [] (turned_half high others)) (e, v) → Has (entries_in [] others) (turned e, v)) →
          Has (entries_in [] (cond b (more (turned f) o m children (turned_half high others)) (turned_half high others))) (e, v) →
          Has (entries_in [] (more f o m children others)) (turned e, v)
      by false later i = Has-right (own f o children) _ _ (later i)
      by true later i = elim (Has-cases (own (turned f) o children) (entries_in [] (turned_half high others)) (e, v) i) [
        | inl j ↦ Has-left _ _ _ ((own_turned f o children s.0).back e v j)
        | inr j ↦ Has-right (own f o children) _ _ (later j)
      ]

  -- turned children have the children's entries with their lists turned
  children_turned : (k : Children P) → IsPlaced 0 k → AreTurned (entries_in [] k) (entries_in [] (turned_children k))
  children_turned k s = record {
    there = λ e v h. subst (λ es. Has es (turned e, v)) (sym (entries_in-append (turned_half true k) (turned_half false k))) (elim (into_halves 0 k s e v h) [
      | inl i ↦ Has-left _ _ _ i
      | inr i ↦ Has-right (entries_in [] (turned_half true k)) _ _ i
    ]);
    back = λ e v h. elim (Has-cases (entries_in [] (turned_half true k)) _ (e, v) (subst (λ es. Has es (e, v)) (entries_in-append (turned_half true k) (turned_half false k)) h)) [
      | inl i ↦ from_half true 0 k s e v i
      | inr i ↦ from_half false 0 k s e v i
    ];
  }

  -- two runs of entries with turned lists, joined, have turned lists
  join_turned : (es ds xs ys : List (List ℕ × P)) → AreTurned es ds → AreTurned xs ys → AreTurned (es ++ xs) (ds ++ ys)
  join_turned es ds xs ys s t = record {
    there = λ e v h. elim (Has-cases es xs (e, v) h) [ inl i ↦ Has-left ds ys _ (s.there e v i) | inr i ↦ Has-right ds ys _ (t.there e v i) ];
    back = λ e v h. elim (Has-cases ds ys (e, v) h) [ inl i ↦ Has-left es xs _ (s.back e v i) | inr i ↦ Has-right es xs _ (t.back e v i) ];
  }

  -- the entry at the empty list is its own turned one
  top_turned : (o : Option P) → AreTurned (entry [] o) (entry [] o)
  top_turned None = rows_turned []
  top_turned (Some x) = rows_turned (([], x) ∷ [])

  -- a turned root has the root's entries with their lists turned
  pub root_turned : (t : Tree P) → t.fragment ≡ [] → IsTreePlaced t → AreTurned (entries_at [] t) (entries_at [] (turned_root t))
  root_turned t top placed = subst (λ f. AreTurned (entry f t.pair ++ entries_in f t.children) (entry f t.pair ++ entries_in f (turned_children t.children))) (sym top)
      (join_turned _ _ _ _ (top_turned t.pair) (children_turned t.children placed.1))

  -- maps with turned entries
  -- at each list of some entries there is a value
  has_value : (es : List (List ℕ × P)) (e : List ℕ) → Has (stored es) e → (v : P) × Has es (e, v)
  has_value [] e h = absurd h
  has_value (d ∷ es) e (inl i) = (d.1, inl (λ j. (i j, d.1)))
  has_value (d ∷ es) e (inr h) = let r = has_value es e h in (r.0, inr r.1)

  module _ (m n : NibbleMap P) (s : AreTurned (fin.entries m) (fin.entries n)) where
    -- where the first map stores a list, the second stores it turned
    stored_there : (e : List ℕ) → IsStored m e → IsStored n (turned e)
    stored_there e h = let r = has_value (fin.entries m) e ((stored_by_entries m e).1 h) in (stored_by_entries n (turned e)).0 (Has-stored (fin.entries n) (turned e) r.0 (s.there e r.0 r.1))

    -- where the second map stores a list, the first stores it turned
    stored_back : (e : List ℕ) → IsStored n e → IsStored m (turned e)
    stored_back e h = let r = has_value (fin.entries n) e ((stored_by_entries n e).1 h) in (stored_by_entries m (turned e)).0 (Has-stored (fin.entries m) (turned e) r.0 (s.back e r.0 r.1))

    -- a copy of the second map
    -- a copy of a map whose entries are another map's turned is a turned copy of that map
    pub copy_turned : {Q : Type 0} (R : P → Q → Type 0) (u : NibbleMap Q) → IsMapCopy R n u → IsTurnedCopy R m u
    copy_turned R u c = record {
      turned_lists = λ e. (
        (λ h. (c.same_lists (turned e)).0 (stored_there e h)),
        (λ h. subst (IsStored m) (turned-turned e) (stored_back (turned e) ((c.same_lists (turned e)).1 h))),
      );
      only_turned = λ e. (
        (λ h. stored_back e ((c.same_lists e).1 h)),
        (λ h. (c.same_lists e).0 (subst (IsStored n) (turned-turned e) (stored_there (turned e) h))),
      );
      copied_pairs = λ e x y i j. c.copied_pairs (turned e) x y ((has_get n (turned e) x).0 (s.there e x ((has_get m e x).1 i))) j;
    }

-- entries read as rows
module _ {P K V : Type 0} (row : P → K × V) where
  -- the entries, each pair read as a key and a value
  abbrev rows : List (List ℕ × P) → List (List ℕ × (K × V))
  rows es = map (λ e. (e.0, row e.1)) es

  -- each row comes from an entry at its list
  row_has : (es : List (List ℕ × P)) (e : List ℕ) (w : K × V) → Has (rows es) (e, w) → (v : P) × Has es (e, v) × (w ≡ row v)
  row_has [] e w h = absurd h
  row_has (d ∷ es) e w (inl i) = (d.1, inl (λ j. ((i j).0, d.1)), ap (λ (z : List ℕ × (K × V)). z.1) i)
  row_has (d ∷ es) e w (inr h) = let r = row_has es e w h in (r.0, inr r.1, r.2)

  -- rows read from entries with turned lists have turned lists
  pub turned_rows : (es ds : List (List ℕ × P)) → AreTurned es ds → AreTurned (rows es) (rows ds)
  turned_rows es ds s = record {
    there = λ e w h. let r = row_has es e w h in subst (λ w. Has (rows ds) (turned e, w)) (sym r.2) (has_row row ds (turned e) r.0 (s.there e r.0 r.1));
    back = λ e w h. let r = row_has ds e w h in subst (λ w. Has (rows es) (turned e, w)) (sym r.2) (has_row row es (turned e) r.0 (s.back e r.0 r.1));
  }

  -- the map of a turned root
  -- a copy of the turned root's map is a turned copy of the root's map
  pub root_map_turned : (R : K × V → K × V → Type 0) (t : Tree P) (n : NibbleMap (K × V)) → IsFullRoot t → IsMapCopy R (fin.from_sorted (read_entries row (turned_root t))) n →
      IsTurnedCopy R (fin.from_sorted (read_entries row t)) n
  root_map_turned R t n r c =
      let m : NibbleMap (K × V) = fin.from_sorted (read_entries row t) in
      let d : NibbleMap (K × V) = fin.from_sorted (read_entries row (turned_root t)) in
      let full : IsFullRoot (turned_root t) = record { top = r.top; placed = turned_placed t r.placed; full = turned_full t r.placed r.full } in
      let entries : AreTurned (fin.entries m) (fin.entries d) = subst (λ es. AreTurned es (fin.entries d)) (sym (entries-rows_of row t r))
      (subst (AreTurned (read_entries row t)) (sym (entries-rows_of row (turned_root t) full)) (turned_rows _ _ (root_turned t r.top r.placed))) in
      copy_turned m d entries R n c
