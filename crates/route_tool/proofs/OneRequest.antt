-- A line asks for one thing at most.
use Rattle.std.proofs.Common.{◌≡◌, ◌≢◌, ◌∙◌, inl, inr, ℕ, ◌≤◌, ◌+◌, ◌*◌, true, not, ◌==◌, List, get_or, refl, arith, sym, ap, subst}
use Rattle.std.specs.Net.Addr.{ipv4_bits, ipv6_bits}
use Rattle.std.specs.Net.Grammar.{IsIpv4Text, IsIpv6Text}
use Rattle.std.specs.List.{list_all}
use Rattle.std.specs.declared.net.ipv4_addr.Ipv4Addr.{Ipv4Addr}
use Rattle.std.specs.declared.net.ipv6_addr.Ipv6Addr.{Ipv6Addr}
use Rattle.std.proofs.NetLemmas.Ipv6.{IsDotted-not_colon_hex}
use Rattle.std.proofs.NetLemmas.Theorems.{IsIpv4Text_unique, IsIpv6Text_unique}
use Rattle.std.proofs.lemmas.Fmt.{decimal_injective}
use Rattle.radix_keys.specs.Networks.{Net, IsParted}
use Rattle.route_tool.specs.Requests.{Request, Add, Del, Below, Look, Find, Asked, V4, V6, Len, All, Dump, Aggregate, Compact, OnFile, Help, Comment, Asks, IsRequest, IsTarget, IsTextRequest, Says, WritesNetwork, file_word, in_full, word_of}
use Rattle.route_tool.proofs.CommandLemmas.{file_apart, file_no_hash, has_slash, no_bare, no_space_in, one_file_call, one_part, word_by}

module _ {A : Type 0} (w : ℕ) (narrow : w ≤ 128) (number : A → ℕ) (writes : List ℕ → A → Type 0) (one : (s : List ℕ) (a b : A) → writes s a → writes s b → a ≡ b) where
  -- a network is its base and its bits
  one_net : (m n : Net A) → m.base ≡ n.base → m.bits ≡ n.bits → m ≡ n
  one_net m n base bits = λ i. record { base = base i; bits = bits i }

  -- a text writes one network
  one_written : (s : List ℕ) (m n : Net A) → WritesNetwork w number writes s m → WritesNetwork w number writes s n → m ≡ n
  one_written s m n (inl (a, b, p, base, bits, is)) (inl (d, e, q, also, count, too)) =
      let parts = one_part 47 s a b d e p q in
      one_net m n (one a m.base n.base base (subst (λ t. writes t n.base) (sym parts.0) also))
      (decimal_injective m.bits n.bits (omega (arith, narrow, is.1)) (omega (arith, narrow, too.1)) (sym bits ∙ parts.1 ∙ count))
  one_written s m n (inl (a, b, p, _, _, _)) (inr (free, _, _)) = absurd (has_slash s a b p free)
  one_written s m n (inr (free, _, _)) (inl (d, e, q, _, _, _)) = absurd (has_slash s d e q free)
  one_written s m n (inr (_, base, bits)) (inr (_, also, count)) = one_net m n (one s m.base n.base base also) (bits ∙ sym count)

  -- a word stands for one network
  one_target : (s : List ℕ) (m n : Net A) → IsTarget w number writes s m → IsTarget w number writes s n → m ≡ n
  one_target s m n p q = one_written (in_full s) m n p q

  -- a word and what stands behind it are one request
  one_request : (rest : List ℕ) (r s : Request A) → word_of r ≡ word_of s → Says w number writes r rest → Says w number writes s rest → r ≡ s
  one_request rest (Add m hop) (Add n also) e (a, p, target, _) (b, q, too, _) =
      let parts = one_part 32 rest a hop b also p q in
      let same = one_target a m n target (subst (λ t. IsTarget w number writes t n) (sym parts.0) too) in
      λ i. Add (same i) (parts.1 i)
  one_request rest (Del m) (Del n) e p q = ap Del (one_target rest m n p q)
  one_request rest (Below m) (Below n) e p q = ap Below (one_target rest m n p q)
  one_request rest (Look a) (Look b) e p q = ap Look (one rest a b p q)
  one_request rest (Find a) (Find b) e p q = ap Find (one rest a b p q)
  one_request rest r s e p q = absurd (omega (arith, ap (λ (l : List ℕ). get_or l 0 0) e))

  one_asked : (text : List ℕ) (r s : Request A) → Asks w number writes text r → Asks w number writes text s → r ≡ s
  one_asked text r s (rest, p, says) (others, q, also) =
      let parts = one_part 32 text (word_of r) rest (word_of s) others p q in
      one_request rest r s parts.0 says (subst (Says w number writes s) (sym parts.1) also)

module _ {A : Type 0} (w : ℕ) (number : A → ℕ) (writes : List ℕ → A → Type 0) where
  -- no request is a comment or a word alone
  no_word : (text : List ℕ) (r : Request A) → Asks w number writes text r
      → (get_or text 0 0 ≢ 35) × ((bare : List ℕ) → text ≡ bare → list_all (λ b. not (b == 32)) bare ≡ true → ⊥)
  no_word text r (rest, parted, _) =
      let by = word_by r in
      no_bare text by.0 rest (subst (λ word. IsParted 32 text word rest) by.1 parted)

-- no text writes networks of both families
written_apart : (s : List ℕ) (m : Net Ipv4Addr) (n : Net Ipv6Addr) → WritesNetwork 32 ipv4_bits IsIpv4Text s m → WritesNetwork 128 ipv6_bits IsIpv6Text s n → ⊥
written_apart s m n (inl (a, b, p, base, _, _)) (inl (d, e, q, also, _, _)) =
    IsDotted-not_colon_hex a _ _ base (subst (λ t. IsIpv6Text t n.base) (sym (one_part 47 s a b d e p q).0) also)
written_apart s m n (inl (a, b, p, _, _, _)) (inr (free, _, _)) = has_slash s a b p free
written_apart s m n (inr (free, _, _)) (inl (d, e, q, _, _, _)) = has_slash s d e q free
written_apart s m n (inr (_, base, _)) (inr (_, also, _)) = IsDotted-not_colon_hex s _ _ base also

-- no word stands for networks of both families
target_apart : (s : List ℕ) (m : Net Ipv4Addr) (n : Net Ipv6Addr) → IsTarget 32 ipv4_bits IsIpv4Text s m → IsTarget 128 ipv6_bits IsIpv6Text s n → ⊥
target_apart s m n p q = written_apart (in_full s) m n p q

-- nor does a text ask for something of both
says_apart : (rest : List ℕ) (r : Request Ipv4Addr) (s : Request Ipv6Addr) → word_of r ≡ word_of s → Says 32 ipv4_bits IsIpv4Text r rest → Says 128 ipv6_bits IsIpv6Text s rest → ⊥
says_apart rest (Add m hop) (Add n also) e (a, p, target, _) (b, q, too, _) =
    target_apart a m n target (subst (λ t. IsTarget 128 ipv6_bits IsIpv6Text t n) (sym (one_part 32 rest a hop b also p q).0) too)
says_apart rest (Del m) (Del n) e p q = target_apart rest m n p q
says_apart rest (Below m) (Below n) e p q = target_apart rest m n p q
says_apart rest (Look a) (Look b) e p q = IsDotted-not_colon_hex rest _ _ p q
says_apart rest (Find a) (Find b) e p q = IsDotted-not_colon_hex rest _ _ p q
says_apart rest r s e p q = omega (arith, ap (λ (l : List ℕ). get_or l 0 0) e)

asked_apart : (text : List ℕ) (r : Request Ipv4Addr) (s : Request Ipv6Addr) → Asks 32 ipv4_bits IsIpv4Text text r → Asks 128 ipv6_bits IsIpv6Text text s → ⊥
asked_apart text r s (rest, p, says) (others, q, also) =
    let parts = one_part 32 text (word_of r) rest (word_of s) others p q in
    says_apart rest r s parts.0 says (subst (Says 128 ipv6_bits IsIpv6Text s) (sym parts.1) also)

-- a text that asks for something is no comment
no_comment : (text : List ℕ) (c : Asked) → IsTextRequest text c → get_or text 0 0 ≢ 35
no_comment text (V4 r) p = (no_word 32 ipv4_bits IsIpv4Text text r p).0
no_comment text (V6 r) p = (no_word 128 ipv6_bits IsIpv6Text text r p).0
no_comment text Comment p = absurd p
no_comment text (OnFile call path) p = file_no_hash text call path p
no_comment text c p = λ e. omega (arith, ap (λ (l : List ℕ). get_or l 0 0) p, e)

-- the first two letters of a word alone tell it from the others
letters : List ℕ → ℕ
letters l = get_or l 0 0 + 2 * get_or l 1 0

-- what a text asks for, it asks for alone
one_text : (text : List ℕ) (c d : Asked) → IsTextRequest text c → IsTextRequest text d → c ≡ d
unfolding letters
one_text text Comment d p q = absurd p
one_text text c Comment p q = absurd q
one_text text (V4 r) (V4 s) p q = ap V4 (one_asked 32 (omega arith) ipv4_bits IsIpv4Text IsIpv4Text_unique text r s p q)
one_text text (V6 r) (V6 s) p q = ap V6 (one_asked 128 (omega arith) ipv6_bits IsIpv6Text IsIpv6Text_unique text r s p q)
one_text text (V4 r) (V6 s) p q = absurd (asked_apart text r s p q)
one_text text (V6 r) (V4 s) p q = absurd (asked_apart text s r q p)
one_text text (V4 r) (OnFile call path) (rest, p, _) q = absurd (file_apart text r call rest path p q)
one_text text (V6 r) (OnFile call path) (rest, p, _) q = absurd (file_apart text r call rest path p q)
one_text text (OnFile call path) (V4 r) p (rest, q, _) = absurd (file_apart text r call rest path q p)
one_text text (OnFile call path) (V6 r) p (rest, q, _) = absurd (file_apart text r call rest path q p)
one_text text (OnFile call path) (OnFile too other) p q =
    let parts = one_part 32 text (file_word call) path (file_word too) other p q in
    let same = one_file_call call too parts.0 in
    λ i. OnFile (same i) (parts.1 i)
one_text text (OnFile call path) d p q = absurd (no_space_in text (file_word call) path _ p q refl)
one_text text (V4 r) d p q = absurd ((no_word 32 ipv4_bits IsIpv4Text text r p).1 _ q refl)
one_text text (V6 r) d p q = absurd ((no_word 128 ipv6_bits IsIpv6Text text r p).1 _ q refl)
one_text text c (V4 r) p q = absurd ((no_word 32 ipv4_bits IsIpv4Text text r q).1 _ p refl)
one_text text c (V6 r) p q = absurd ((no_word 128 ipv6_bits IsIpv6Text text r q).1 _ p refl)
one_text text c (OnFile call path) p q = absurd (no_space_in text (file_word call) path _ q p refl)
one_text text Len Len p q = refl
one_text text All All p q = refl
one_text text Dump Dump p q = refl
one_text text Aggregate Aggregate p q = refl
one_text text Compact Compact p q = refl
one_text text Help Help p q = refl
one_text text c d p q = absurd (omega (arith, ap letters (sym p ∙ q)))

-- what a line asks for, it asks for alone
pub one_line : (line : List ℕ) (c d : Asked) → IsRequest line c → IsRequest line d → c ≡ d
one_line line c d (inl (hash, is)) (inl (_, also)) = is ∙ sym also
one_line line c d (inl (hash, is)) (inr (_, q)) = absurd (no_comment line d q hash)
one_line line c d (inr (_, p)) (inl (hash, is)) = absurd (no_comment line c p hash)
one_line line c d (inr (_, p)) (inr (_, q)) = one_text line c d p q
