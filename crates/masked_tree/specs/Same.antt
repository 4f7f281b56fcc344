-- When two kept trees are alike, and when one is a copy of another.
use Rattle.std.specs.Prelude.{◌≡◌, ℕ, ◌&&◌, Bool, true, false, List, [], ◌∷◌, map, nat_eq, Option, Some, None, ⊤}
use Rattle.std.specs.Cmp.Lexicographic.{pointwise}
use Rattle.masked_tree.specs.Tree.{Tree, Children, none, more, IsTreePlaced, IsFullBelow, entries_at}

-- a root: its fragment is empty, the children are at their places, and each node below has a pair
-- or two children
pub record IsFullRoot {P : Type 0} (t : Tree P) : Type 0 where
  pub top : t.fragment ≡ []
  pub placed : IsTreePlaced t
  pub full : IsFullBelow t

-- a root's entries in order, each pair read as a key and a value
abbrev pub read_entries : {P K V : Type 0} → (P → K × V) → Tree P → List (List ℕ × (K × V))
read_entries row t = map (λ e. (e.0, row e.1)) (entries_at [] t)

module _ {P : Type 0} (eq : P → P → Bool) where
  -- neither has a pair, or both have one and the two are equal
  abbrev pub same_pair : Option P → Option P → Bool
  same_pair None None = true
  same_pair None (Some y) = false
  same_pair (Some x) None = false
  same_pair (Some x) (Some y) = eq x y

  -- as many children, and in turn with the same fragments, equal pairs and the same children
  abbrev pub same_children : Children P → Children P → Bool
  same_children none none = true
  same_children none (more g p n ls rest) = false
  same_children (more f o m children others) none = false
  same_children (more f o m children others) (more g p n ls rest) =
      (pointwise nat_eq f g && (same_pair o p && same_children children ls))
      && same_children others rest

  -- masks aren't compared, since the children's fragments tell them
  abbrev pub same_tree : Tree P → Tree P → Bool
  same_tree t u = pointwise nat_eq t.fragment u.fragment
      && (same_pair t.pair u.pair && same_children t.children u.children)

module _ {P Q : Type 0} (R : P → Q → Type 0) where
  -- neither has a pair, or R holds of the two
  abbrev pub IsPairCopy : Option P → Option Q → Type 0
  IsPairCopy None None = ⊤
  IsPairCopy None (Some y) = ⊥
  IsPairCopy (Some x) None = ⊥
  IsPairCopy (Some x) (Some y) = R x y

  -- the same fragments, masks and children, and R holds of each pair and its copy
  abbrev pub AreChildCopies : Children P → Children Q → Type 0
  AreChildCopies none none = ⊤
  AreChildCopies none (more g p n ls rest) = ⊥
  AreChildCopies (more f o m children others) none = ⊥
  AreChildCopies (more f o m children others) (more g p n ls rest) =
      (g ≡ f) × (n ≡ m) × IsPairCopy o p × AreChildCopies children ls × AreChildCopies others rest

  pub record IsCopy (t : Tree P) (u : Tree Q) : Type 0 where
    pub fragment : u.fragment ≡ t.fragment
    pub mask : u.mask ≡ t.mask
    pub pair : IsPairCopy t.pair u.pair
    pub children : AreChildCopies t.children u.children

  -- the same lists in the same order, and R holds of the pairs at each
  abbrev pub AreEntryCopies : List (List ℕ × P) → List (List ℕ × Q) → Type 0
  AreEntryCopies [] [] = ⊤
  AreEntryCopies [] (d ∷ ds) = ⊥
  AreEntryCopies (e ∷ es) [] = ⊥
  AreEntryCopies (e ∷ es) (d ∷ ds) = (d.0 ≡ e.0) × R e.1 d.1 × AreEntryCopies es ds
