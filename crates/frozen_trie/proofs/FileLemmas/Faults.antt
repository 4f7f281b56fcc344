-- Where a file is at fault, and why.
use Rattle.std.proofs.Common.{◌≡◌, ◌≢◌, ℕ, ◌+◌, ◌<◌, ◌^◌, ◌⊎◌, List, ◌++◌, codes, length, take, IfSome, Option, None, Some, inl, inr, append_assoc, refl, sym, ap, subst, ◌∙◌, arith}
use Rattle.std.proofs.KnownBytes.{Consumes-trans}
use Rattle.std.specs.Int.{w32, to_le_bytes}
use Rattle.std.specs.Io.Iter.{u64_saturate}
use Rattle.std.specs.Io.KnownBytes.{Consumes}
use Rattle.nibble_map.specs.Lists.{Each}
use Rattle.frozen_trie.specs.declared.file.FileError.{FileError}
use Rattle.frozen_trie.specs.declared.file.FileWhy.{FileWhy}
use Rattle.frozen_trie.specs.declared.file.FileWhy.TheVariants.{Full, Long, Memory, Read, Short, OutOfOrder, Version}
use Rattle.sorted_tables.specs.declared.errors.PushWhy.{PushWhy}
use Rattle.sorted_tables.specs.declared.errors.PushWhy.TheVariants as push
use Rattle.frozen_trie.specs.FileRows.{FitsRow, HasNoCounted, HasNoRow, IsCountedFault, IsEndFault, IsFault, IsFaultBehind, IsHeadFault, IsHeadPart, IsReaderFault, IsRefusedRow, IsRestFault, IsUnreadRow, counted_bytes, file_rows, head_of, row_of}
use Rattle.frozen_trie.proofs.FileLemmas.Distinct.{same_counted}

other_version : (a b : Option (List ℕ)) (version pair place : ℕ) → Consumes a b (codes "FROZENTX" ++ to_le_bytes w32 version) → version < 2 ^ 32 → version ≢ 2 → pair ≡ 0 → place ≡ 8
    → IfSome a (λ bytes. IsHeadFault Version bytes pair place)
other_version None b version pair place took fits other none at = tt
other_version (Some x) None version pair place took fits other none at = absurd took
other_version (Some x) (Some y) version pair place took fits other none at = (none, at, record { version = version; rest = y; fits = fits; begin = took; other = other })

-- in the head, whose version is another one
pub fault_of_version : (a b c : Option (List ℕ)) (name : List ℕ) (version : ℕ) (e : FileError) → Consumes a b name → Consumes b c (to_le_bytes w32 version) → name ≡ codes "FROZENTX"
    → version < 2 ^ 32 → version ≢ 2 → e.why ≡ Version → (e.pair ≡ 0) × (e.place ≡ 8) → IfSome a (λ bytes. IsHeadFault e.why bytes e.pair e.place)
fault_of_version a b c name version e first second same fits other why at =
    subst (λ w. IfSome a (λ bytes. IsHeadFault w bytes e.pair e.place)) (sym why)
    (other_version a c version e.pair e.place (subst (λ n. Consumes a c (n ++ to_le_bytes w32 version)) same (Consumes-trans a b c name (to_le_bytes w32 version) first second)) fits other at.0 at.1)

cut_head : (why : FileWhy) (a b : Option (List ℕ)) (begun : List ℕ) (pair place size : ℕ) → Consumes a b begun → begun ≡ take place (head_of 0) → IsHeadPart place size
    → IsReaderFault why b size → pair ≡ 0 → IfSome a (λ bytes. IsHeadFault why bytes pair place)
cut_head why None b begun pair place size took same part fault none = tt
cut_head why (Some x) None begun pair place size took same part fault none = absurd took
cut_head Short (Some x) (Some y) begun pair place size took same part fault none =
    (none, record { until = record { size = size; rest = y; part = part; begin = took ∙ ap (λ n. n ++ y) same }; cut = fault })
cut_head Read (Some x) (Some y) begun pair place size took same part fault none = (none, record { size = size; rest = y; part = part; begin = took ∙ ap (λ n. n ++ y) same })
cut_head why (Some x) (Some y) begun pair place size took same part fault none = absurd fault

-- in the head, of which a part isn't read
pub fault_in_head : (why : FileWhy) (a b : Option (List ℕ)) (begun : List ℕ) (place size : ℕ) (e : FileError) → Consumes a b begun → begun ≡ take place (head_of 0) → IsHeadPart place size
    → IsReaderFault why b size → e.why ≡ why → (e.pair ≡ 0) × (e.place ≡ place) → IfSome a (λ bytes. IsHeadFault e.why bytes e.pair e.place)
fault_in_head why a b begun place size e took same part fault is at =
    subst (λ w. IfSome a (λ bytes. IsHeadFault w bytes e.pair e.place)) (sym is)
    (subst (λ p. IfSome a (λ bytes. IsHeadFault why bytes e.pair p)) (sym at.1) (cut_head why a b begun e.pair place size took same part fault at.0))

-- the first two parts of a head
pub named_two : (name : List ℕ) (version : ℕ) → name ≡ codes "FROZENTX" → version ≡ 2 → name ++ to_le_bytes w32 version ≡ take 12 (head_of 0)
named_two name version same two = ap (λ n. n ++ to_le_bytes w32 version) same ∙ ap (λ v. codes "FROZENTX" ++ to_le_bytes w32 v) two

-- nor do those that begin with no value behind a key
no_value : (x y k : List ℕ) → x ≡ counted_bytes k ++ y → length k < 2 ^ 32 → HasNoCounted y → HasNoRow x
no_value x y k e fits none p next =
    let parts = same_counted k p.0 y (counted_bytes p.1 ++ next.1.0) fits next.0.0 (sym e ∙ next.1.1 ∙ append_assoc (counted_bytes p.0) (counted_bytes p.1) next.1.0) in
    none p.1 next.1.0 next.0.1 parts.1

module _ {M : Type 0} (Refuses : M → FileWhy → List ℕ × List ℕ → Type 0) where
  -- why no row is read: there is no value
  pub unread_value : (why : FileWhy) (m : M) (a b : Option (List ℕ)) (k : List ℕ) → Consumes a b (counted_bytes k) → length k < 2 ^ 32 → IsCountedFault why b
      → IfSome a (IsUnreadRow Refuses why m)
  unread_value why m None b k took fits fault = tt
  unread_value why m (Some x) None k took fits fault = absurd took
  unread_value Short m (Some x) (Some y) k took fits fault = no_value x y k took fits fault
  unread_value Read m (Some x) (Some y) k took fits fault = tt
  unread_value Memory m (Some x) (Some y) k took fits fault = tt
  unread_value why m (Some x) (Some y) k took fits fault = absurd fault

  refused_next : (why : FileWhy) (m : M) (x z k v : List ℕ) → x ≡ row_of (k, v) ++ z → FitsRow (k, v) → IsRefusedRow Refuses why m (k, v) → IsUnreadRow Refuses why m x
  refused_next Short m x z k v e fits h = absurd h
  refused_next Read m x z k v e fits h = tt
  refused_next Memory m x z k v e fits h = tt
  refused_next why m x z k v e fits h = ((k, v), (fits, (z, e)), h)

  -- the map doesn't take it
  pub unread_pair : (why : FileWhy) (m : M) (a b c : Option (List ℕ)) (k v : List ℕ) → Consumes a b (counted_bytes k) → Consumes b c (counted_bytes v)
      → length k < 2 ^ 32 → length v < 2 ^ 32 → IsRefusedRow Refuses why m (k, v) → IfSome a (IsUnreadRow Refuses why m)
  unread_pair why m a b c k v first second f g h = by a c (Consumes-trans a b c (counted_bytes k) (counted_bytes v) first second)
    where
      by : (o r : Option (List ℕ)) → Consumes o r (row_of (k, v)) → IfSome o (IsUnreadRow Refuses why m)
      by None r took = tt
      by (Some x) None took = absurd took
      by (Some x) (Some z) took = refused_next why m x z k v took (f, g) h

module _ {M : Type 0} (rows : M → List (List ℕ × List ℕ)) (Refuses : M → FileWhy → List ℕ × List ℕ → Type 0) where
  -- a row that isn't read is missing where the file has one more
  missing : (why : FileWhy) (m : M) (count : ℕ) (x : List ℕ) → length (rows m) < count → IsUnreadRow Refuses why m x → IsRestFault rows Refuses why m count x
  missing Long m count x less h = absurd h.2
  missing Read m count x less h = tt
  missing Memory m count x less h = tt
  missing why m count x less h = (less, h)

  pub missing_row : (why : FileWhy) (m : M) (count : ℕ) (a : Option (List ℕ)) → length (rows m) < count → IfSome a (IsUnreadRow Refuses why m)
      → IfSome a (IsRestFault rows Refuses why m count)
  missing_row why m count None less h = tt
  missing_row why m count (Some x) less h = missing why m count x less h

  -- what stands behind the last row isn't the end
  pub no_end : (why : FileWhy) (m : M) (count : ℕ) (a : Option (List ℕ)) → length (rows m) ≡ count → IsEndFault why a → IfSome a (IsRestFault rows Refuses why m count)
  no_end why m count None all h = tt
  no_end Long m count (Some x) all h = (all, h)
  no_end Read m count (Some x) all h = tt
  no_end why m count (Some x) all h = absurd h

  -- for want of memory nothing else is wrong
  pub no_memory : (why : FileWhy) (m : M) (count : ℕ) (a : Option (List ℕ)) → why ≡ Memory → IfSome a (IsRestFault rows Refuses why m count)
  no_memory why m count None e = tt
  no_memory why m count (Some x) e = subst (λ w. IsRestFault rows Refuses w m count x) (sym e) tt

module _ {M : Type 0} (rows : M → List (List ℕ × List ℕ)) (Are : M → Type 0) (Refuses : M → FileWhy → List ℕ × List ℕ → Type 0) where
  -- behind the rows that were read
  pub fault_behind : (a b : Option (List ℕ)) (why : FileWhy) (n pair place : ℕ) (m : M) → Consumes a b (head_of n ++ file_rows (rows m)) → n < 2 ^ 64 → Each FitsRow (rows m) → Are m
      → length (rows m) ≡ pair → place ≡ u64_saturate (20 + length (file_rows (rows m))) → IfSome b (IsRestFault rows Refuses why m n)
      → IfSome a (λ bytes. IsFault rows Are Refuses why bytes pair place)
  fault_behind None b why n pair place m took few fits items count ends fault = tt
  fault_behind (Some x) None why n pair place m took few fits items count ends fault = absurd took
  fault_behind (Some x) (Some y) why n pair place m took few fits items count ends fault =
      let behind : IsFaultBehind rows Are Refuses why x pair place = record {
        map = m;
        count = n;
        rest = y;
        few = few;
        fits = fits;
        items = items;
        begin = took;
        pairs = count;
        ends = ends ∙ ap u64_saturate (omega arith);
        fault = fault;
      } in
      inr behind

-- why a row whose pair isn't appended isn't read
pub by_push : (P : FileWhy → Type 0) (why : PushWhy) (r : FileWhy) → (why ≡ push.Memory → r ≡ Memory) → (why ≡ push.Full → r ≡ Full) → (why ≡ push.OutOfOrder → r ≡ OutOfOrder)
    → P Memory → (why ≡ push.Full → P Full) → (why ≡ push.OutOfOrder → P OutOfOrder) → P r
by_push P push.Memory r m f u p q s = subst P (sym (m refl)) p
by_push P push.Full r m f u p q s = subst P (sym (f refl)) (q refl)
by_push P push.OutOfOrder r m f u p q s = subst P (sym (u refl)) (s refl)

-- why no key, or no value, is made of a row's bytes
pub by_item : (P : FileWhy → Type 0) (why malformed : FileWhy) (N : Type 0) → (why ≡ Memory) ⊎ ((why ≡ malformed) × N) → P Memory → (N → P malformed) → P why
by_item P why malformed N (inl e) p q = subst P (sym e) p
by_item P why malformed N (inr h) p q = subst P (sym h.0) (q h.1)
