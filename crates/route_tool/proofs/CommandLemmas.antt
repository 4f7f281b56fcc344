-- What a line asks for.
use Rattle.std.proofs.Common.{◌≡◌, ◌≢◌, ◌∙◌, ◌⊎◌, inl, inr, Bool, true, false, bytes_eq, not, ◌==◌, true≢false, if◌then◌else◌, ℕ, suc, ◌+◌, ◌*◌, ◌<◌, ◌≤◌, [], ◌∷◌, ◌++◌, List, Some, None, EachIndex, length, get_or, arith, refl, sym, ap, subst, lit<, codes, length-append, decimal, append_assoc, zero, ◌^◌}
use Rattle.std.specs.Borrow.{Bor}
use Rattle.std.specs.Net.Addr.{ipv4_bits, ipv6_bits}
use Rattle.std.specs.Net.Grammar.{IsIpv4Text, IsIpv6Text}
use Rattle.std.specs.declared.net.ipv4_addr.Ipv4Addr.{Ipv4Addr}
use Rattle.std.specs.declared.net.ipv6_addr.Ipv6Addr.{Ipv6Addr}
use Rattle.std.proofs.Math.ListN.{get_or-append}
use Rattle.std.proofs.Math.Seq.{get_or-append_seam}
use Rattle.std.specs.List.{list_all}
use Rattle.std.proofs.lemmas.Bool.Decides.{eqb_tells}
use Rattle.std.proofs.lemmas.List.Folds.{list_all_at}
use Rattle.std.proofs.lemmas.Slice.Eq.{bytes_eq-Decides}
use Rattle.std.proofs.lemmas.Fmt.{decimal_nonempty, length-decimal-le}
use Rattle.std.proofs.lemmas.Str.Pattern.{IsSplitOnceResult, split_after, split_parts}
use Rattle.radix_keys.specs.Networks.{Net, IsNetText, IsParted}
use Rattle.radix_keys.proofs.NetworkLemmas.{no_slash}
use Rattle.route_tool.specs.Commands.{word_text}
use Rattle.route_tool.specs.declared.command.FileCall.{FileCall}
use Rattle.route_tool.specs.declared.command.FileCall.TheVariants as on
use Rattle.route_tool.specs.declared.command.Word.{Word}
use Rattle.route_tool.specs.declared.command.Word.TheVariants as word
use Rattle.route_tool.specs.Reasons.{IsWorded, ShowsHop}
use Rattle.route_tool.specs.Requests.{Request, Add, Del, Below, Look, Find, Asked, V4, V6, Len, All, Dump, Aggregate, Compact, OnFile, Help, Comment, Asks, HasDotEarly, IsAddition, IsHop, IsTarget, IsTextRequest, MayBeIpv4, Says, WritesNetwork, file_word, in_full, word_of}

-- no part of a text stands before a byte that isn't found
not_parted : (c : ℕ) (s a b : List ℕ) → IsSplitOnceResult c s None → c < 128 → ¬ (IsParted c s a b)
not_parted c s a b found low (is, before) = split_after c s a b None found low is before

-- a text is parted at the first such byte in one way
parted_once : (c : ℕ) (s a b : List ℕ) (x : Bor (List ℕ) × Bor (List ℕ)) → IsSplitOnceResult c s (Some x) → c < 128 → IsParted c s a b → (x.0.now ≡ a) × (x.1.now ≡ b)
parted_once c s a b x found low (is, before) = split_after c s a b (Some x) found low is before

-- a text that is parted at a byte has one
pub has_byte : (c : ℕ) (s a b : List ℕ) → IsParted c s a b → ¬ (EachIndex s (λ i. get_or s i 0 ≢ c))
has_byte c s a b (is, before) free =
    free (length a) (omega (arith, ap length is, length-append a (c ∷ b))) (ap (λ l. get_or l (length a) 0) is ∙ get_or-append_seam a c b 0)

-- so has one with a slash
pub has_slash : (s a b : List ℕ) → IsParted 47 s a b → ¬ (EachIndex s (λ i. get_or s i 0 ≢ 47))
has_slash s a b parted free = has_byte 47 s a b parted free

-- a byte that a list doesn't have is none of its elements
pub free_of : (c : ℕ) (bytes : List ℕ) → list_all (λ b. not (b == c)) bytes ≡ true → EachIndex bytes (λ i. get_or bytes i 0 ≢ c)
free_of c bytes none i lt is =
    elim (eqb_tells c c) [
      | inl same ↦ true≢false (sym none ∙ list_all_at (λ b. not (b == c)) bytes i 0 lt (ap (λ b. not (b == c)) is ∙ ap not same.0))
      | inr differs ↦ differs.1 refl
    ]

-- a text is parted at a byte in one way
one_parting : (c : ℕ) (a b d e : List ℕ) → a ++ (c ∷ b) ≡ d ++ (c ∷ e) → EachIndex a (λ i. get_or a i 0 ≢ c) → EachIndex d (λ i. get_or d i 0 ≢ c) → (a ≡ d) × (b ≡ e)
one_parting c [] b [] e same p q = (refl, cc)
one_parting c [] b (y ∷ d) e same p q = let first : y ≡ c = cc in absurd (q 0 (omega arith) first)
one_parting c (x ∷ a) b [] e same p q = let first : x ≡ c = cc in absurd (p 0 (omega arith) first)
one_parting c (x ∷ a) b (y ∷ d) e same p q =
    let first : x ≡ y = cc in
    let others : a ++ (c ∷ b) ≡ d ++ (c ∷ e) = cc in
    let rest = one_parting c a b d e others (λ i lt. p (suc i) (omega (arith, lt))) (λ i lt. q (suc i) (omega (arith, lt))) in
    (λ i. first i ∷ rest.0 i, rest.1)

-- both parts are one
pub one_part : (c : ℕ) (s a b d e : List ℕ) → IsParted c s a b → IsParted c s d e → (a ≡ d) × (b ≡ e)
one_part c s a b d e (is, p) (also, q) = one_parting c a b d e (sym is ∙ also) p q

-- one word has one first letter
same_letter : (word : Word) (a : List ℕ) → word_text word ≡ a → get_or (word_text word) 0 0 ≡ get_or a 0 0
same_letter word a is = ap (λ (l : List ℕ). get_or l 0 0) is

-- the word of a request
pub word_by : {A : Type 0} (r : Request A) → (word : Word) × (word_of r ≡ word_text word)
word_by (Add net hop) = (word.Add, refl)
word_by (Del net) = (word.Del, refl)
word_by (Below net) = (word.Below, refl)
word_by (Look address) = (word.Look, refl)
word_by (Find address) = (word.Find, refl)

-- no text that begins with a word and a space is a comment
no_hash : (text : List ℕ) (word : Word) (rest : List ℕ) → IsParted 32 text (word_text word) rest → get_or text 0 0 ≢ 35
no_hash text word.Add rest (is, _) = λ e. omega (arith, ap (λ (l : List ℕ). get_or l 0 0) is, e)
no_hash text word.Del rest (is, _) = λ e. omega (arith, ap (λ (l : List ℕ). get_or l 0 0) is, e)
no_hash text word.Below rest (is, _) = λ e. omega (arith, ap (λ (l : List ℕ). get_or l 0 0) is, e)
no_hash text word.Look rest (is, _) = λ e. omega (arith, ap (λ (l : List ℕ). get_or l 0 0) is, e)
no_hash text word.Find rest (is, _) = λ e. omega (arith, ap (λ (l : List ℕ). get_or l 0 0) is, e)

-- nor is one with a space a word alone
pub no_space_in : (text front rest bare : List ℕ) → IsParted 32 text front rest → text ≡ bare → list_all (λ b. not (b == 32)) bare ≡ true → ⊥
no_space_in text front rest bare parted is free = has_byte 32 text front rest parted (subst (λ l. EachIndex l (λ i. get_or l i 0 ≢ 32)) (sym is) (free_of 32 bare free))

-- the third letter and the first tell the words for files from those of requests, and the last one from one another
letters : List ℕ → ℕ
letters l = get_or l 0 0 + 256 * get_or l 2 0

not_file : (word : Word) (call : FileCall) → word_text word ≡ file_word call → ⊥
unfolding letters
not_file word.Add on.Load e = omega (arith, ap letters e)
not_file word.Add on.Open e = omega (arith, ap letters e)
not_file word.Add on.WriteIpv4 e = omega (arith, ap letters e)
not_file word.Add on.WriteIpv6 e = omega (arith, ap letters e)
not_file word.Del on.Load e = omega (arith, ap letters e)
not_file word.Del on.Open e = omega (arith, ap letters e)
not_file word.Del on.WriteIpv4 e = omega (arith, ap letters e)
not_file word.Del on.WriteIpv6 e = omega (arith, ap letters e)
not_file word.Below on.Load e = omega (arith, ap letters e)
not_file word.Below on.Open e = omega (arith, ap letters e)
not_file word.Below on.WriteIpv4 e = omega (arith, ap letters e)
not_file word.Below on.WriteIpv6 e = omega (arith, ap letters e)
not_file word.Look on.Load e = omega (arith, ap letters e)
not_file word.Look on.Open e = omega (arith, ap letters e)
not_file word.Look on.WriteIpv4 e = omega (arith, ap letters e)
not_file word.Look on.WriteIpv6 e = omega (arith, ap letters e)
not_file word.Find on.Load e = omega (arith, ap letters e)
not_file word.Find on.Open e = omega (arith, ap letters e)
not_file word.Find on.WriteIpv4 e = omega (arith, ap letters e)
not_file word.Find on.WriteIpv6 e = omega (arith, ap letters e)

pub one_file_call : (call too : FileCall) → file_word call ≡ file_word too → call ≡ too
one_file_call on.Load on.Load e = refl
one_file_call on.Open on.Open e = refl
one_file_call on.WriteIpv4 on.WriteIpv4 e = refl
one_file_call on.WriteIpv6 on.WriteIpv6 e = refl
one_file_call on.WriteIpv4 on.WriteIpv6 e = absurd (omega (arith, ap (λ (l : List ℕ). get_or l 9 0) e))
one_file_call on.WriteIpv6 on.WriteIpv4 e = absurd (omega (arith, ap (λ (l : List ℕ). get_or l 9 0) e))
one_file_call call too e = absurd (omega (arith, ap (λ (l : List ℕ). get_or l 0 0) e))

-- what is asked of a file is no comment
pub file_no_hash : (text : List ℕ) (call : FileCall) (path : List ℕ) → IsParted 32 text (file_word call) path → get_or text 0 0 ≢ 35
file_no_hash text on.Load path (is, _) = λ e. omega (arith, ap (λ (l : List ℕ). get_or l 0 0) is, e)
file_no_hash text on.Open path (is, _) = λ e. omega (arith, ap (λ (l : List ℕ). get_or l 0 0) is, e)
file_no_hash text on.WriteIpv4 path (is, _) = λ e. omega (arith, ap (λ (l : List ℕ). get_or l 0 0) is, e)
file_no_hash text on.WriteIpv6 path (is, _) = λ e. omega (arith, ap (λ (l : List ℕ). get_or l 0 0) is, e)

-- what is asked of a file is nothing else
pub file_apart : {A : Type 0} (text : List ℕ) (r : Request A) (call : FileCall) (rest path : List ℕ) → IsParted 32 text (word_of r) rest → IsParted 32 text (file_word call) path → ⊥
file_apart text r call rest path p q =
    let by = word_by r in
    not_file by.0 call (sym by.1 ∙ (one_part 32 text (word_of r) rest (file_word call) path p q).0)

-- so it is neither
pub no_bare : (text : List ℕ) (word : Word) (rest : List ℕ) → IsParted 32 text (word_text word) rest
    → (get_or text 0 0 ≢ 35) × ((bare : List ℕ) → text ≡ bare → list_all (λ b. not (b == 32)) bare ≡ true → ⊥)
no_bare text word rest parted = (no_hash text word rest parted, λ bare. no_space_in text (word_text word) rest bare parted)

-- default stands for a network, and any other text for itself
full_by : (s : List ℕ) (v : Bool) → bytes_eq s (codes "default") ≡ v → ((s ≡ codes "default") × (in_full s ≡ codes "0.0.0.0/0")) ⊎ (in_full s ≡ s)
full_by s true e = inl ((bytes_eq-Decides s (codes "default")).0 e, ap (λ (v : Bool). if v then codes "0.0.0.0/0" else s) e)
full_by s false e = inr (ap (λ (v : Bool). if v then codes "0.0.0.0/0" else s) e)

pub full_of : (s : List ℕ) → ((s ≡ codes "default") × (in_full s ≡ codes "0.0.0.0/0")) ⊎ (in_full s ≡ s)
full_of s = full_by s (bytes_eq s (codes "default")) refl

module _ {A : Type 0} (w : ℕ) (number : A → ℕ) (writes : List ℕ → A → Type 0) where
  -- a word with a slash that writes no network in full writes none
  pub no_network : (s : List ℕ) (x : Bor (List ℕ) × Bor (List ℕ)) → IsSplitOnceResult 47 s (Some x) → ((net : Net A) → ¬ (IsNetText w number writes s net)) → (net : Net A) → ¬ (WritesNetwork w number writes s net)
  no_network s x found none net (inl is) = none net is
  no_network s x found none net (inr (free, _, _)) = has_slash s x.0.now x.1.now (split_parts 47 s (Some x) found (lit< tt)) free

  module _ (s : List ℕ) (found : IsSplitOnceResult 47 s None) where
    -- nor does one with no slash that writes no address
    pub no_host : w ≤ 128 → ((a : A) → ¬ (writes s a)) → (net : Net A) → ¬ (WritesNetwork w number writes s net)
    no_host narrow none net (inl is) = no_slash writes number w narrow s found net is
    no_host narrow none net (inr (_, is, _)) = none net.base is

    -- a word with no slash that writes an address writes the network of it alone
    pub is_host : (net : Net A) → writes s net.base → net.bits ≡ w → WritesNetwork w number writes s net
    is_host net is bits = inr (split_parts 47 s None found (lit< tt), is, bits)

  -- a text with no space is no addition
  pub no_space : (s : List ℕ) → IsSplitOnceResult 32 s None → (net : Net A) (hop : List ℕ) → ¬ (IsAddition w number writes s net hop)
  no_space s found net hop (text, parted, _, _) = not_parted 32 s text hop found (lit< tt) parted

  module _ (s : List ℕ) (x : Bor (List ℕ) × Bor (List ℕ)) (found : IsSplitOnceResult 32 s (Some x)) where
    -- nor is one with no hop behind its first space
    pub no_hop : ¬ (IsHop x.1.now) → (net : Net A) (hop : List ℕ) → ¬ (IsAddition w number writes s net hop)
    no_hop wrong net hop (text, parted, _, is) = wrong (subst IsHop (sym (parted_once 32 s text hop x found (lit< tt) parted).1) is)

    -- nor one with no network before it
    pub no_target : ((net : Net A) → ¬ (IsTarget w number writes x.0.now net)) → (net : Net A) (hop : List ℕ) → ¬ (IsAddition w number writes s net hop)
    no_target none net hop (text, parted, is, _) =
        none net (subst (λ t. IsTarget w number writes t net) (sym (parted_once 32 s text hop x found (lit< tt) parted).0) is)

    -- what is found are the parts of an addition
    pub is_addition : (net : Net A) → IsTarget w number writes x.0.now net → IsHop x.1.now → IsAddition w number writes s net x.1.now
    is_addition net target hop = (x.0.now, split_parts 32 s (Some x) found (lit< tt), target, hop)

  module _ (rest : List ℕ) where
    -- the word add asks for nothing where no addition follows
    pub no_add : ((net : Net A) (hop : List ℕ) → ¬ (IsAddition w number writes rest net hop)) → (r : Request A) → word_text word.Add ≡ word_of r → ¬ (Says w number writes r rest)
    no_add none (Add net hop) _ says = none net hop says
    no_add none r other says = omega (arith, same_letter word.Add (word_of r) other)

    module _ (none : (net : Net A) → ¬ (IsTarget w number writes rest net)) where
      -- nor does del where no network follows
      pub no_del : (r : Request A) → word_text word.Del ≡ word_of r → ¬ (Says w number writes r rest)
      no_del (Del net) _ says = none net says
      no_del r other says = omega (arith, same_letter word.Del (word_of r) other)

      -- nor does below
      pub no_below : (r : Request A) → word_text word.Below ≡ word_of r → ¬ (Says w number writes r rest)
      no_below (Below net) _ says = none net says
      no_below r other says = omega (arith, same_letter word.Below (word_of r) other)

-- what a text asks for that begins with this word
module _ (text : List ℕ) (word : Word) (rest : List ℕ) (parted : IsParted 32 text (word_text word) rest) where
  says_nothing : {A : Type 0} (w : ℕ) (number : A → ℕ) (writes : List ℕ → A → Type 0) → ((r : Request A) → word_text word ≡ word_of r → ¬ (Says w number writes r rest)) → (r : Request A) → ¬ (Asks w number writes text r)
  says_nothing w number writes none r (back, also, says) =
      let parts = one_part 32 text (word_text word) rest (word_of r) back parted also in
      none r parts.0 (subst (Says w number writes r) (sym parts.1) says)

  -- nothing, where neither family finds something behind it
  pub no_request : ((r : Request Ipv4Addr) → word_text word ≡ word_of r → ¬ (Says 32 ipv4_bits IsIpv4Text r rest)) → ((r : Request Ipv6Addr) → word_text word ≡ word_of r → ¬ (Says 128 ipv6_bits IsIpv6Text r rest)) → (c : Asked) → ¬ (IsTextRequest text c)
  no_request none4 none6 (V4 r) asks = says_nothing 32 ipv4_bits IsIpv4Text none4 r asks
  no_request none4 none6 (V6 r) asks = says_nothing 128 ipv6_bits IsIpv6Text none6 r asks
  no_request none4 none6 Comment is = is
  no_request none4 none6 (OnFile call path) is = not_file word call (one_part 32 text (word_text word) rest (file_word call) path parted is).0
  no_request none4 none6 c is = (no_bare text word rest parted).1 _ is refl

-- what a text asks for that begins with none
module _ (text : List ℕ) (unworded : (word : Word) (rest : List ℕ) → ¬ (IsParted 32 text (word_text word) rest)) where
  asks_nothing : {A : Type 0} (w : ℕ) (number : A → ℕ) (writes : List ℕ → A → Type 0) (r : Request A) → ¬ (Asks w number writes text r)
  asks_nothing w number writes r (rest, parted, _) = let by = word_by r in unworded by.0 rest (subst (λ word. IsParted 32 text word rest) by.1 parted)

  -- nothing, where it is no bare word
  pub no_text : text ≢ codes "len" → text ≢ codes "list" → text ≢ codes "dump" → text ≢ codes "aggregate" → text ≢ codes "compact" → text ≢ codes "help" → ((call : FileCall) (path : List ℕ) → ¬ (IsParted 32 text (file_word call) path)) → (c : Asked) → ¬ (IsTextRequest text c)
  no_text len list dump aggregate compact help file (V4 r) asks = asks_nothing 32 ipv4_bits IsIpv4Text r asks
  no_text len list dump aggregate compact help file (V6 r) asks = asks_nothing 128 ipv6_bits IsIpv6Text r asks
  no_text len list dump aggregate compact help file Len is = len is
  no_text len list dump aggregate compact help file All is = list is
  no_text len list dump aggregate compact help file Dump is = dump is
  no_text len list dump aggregate compact help file Aggregate is = aggregate is
  no_text len list dump aggregate compact help file Compact is = compact is
  no_text len list dump aggregate compact help file Help is = help is
  no_text len list dump aggregate compact help file (OnFile call path) is = file call path is
  no_text len list dump aggregate compact help file Comment is = is

-- a dot early in a text stands there in front of more
still_dot : (s more : List ℕ) → HasDotEarly s → HasDotEarly (s ++ more)
still_dot s more (long, inl is) = (omega (arith, long, length-append s more), inl (get_or-append s more 0 1 (omega (arith, long)) ∙ is))
still_dot s more (long, inr (inl is)) = (omega (arith, long, length-append s more), inr (inl (get_or-append s more 0 2 (omega (arith, long)) ∙ is)))
still_dot s more (long, inr (inr is)) = (omega (arith, long, length-append s more), inr (inr (get_or-append s more 0 3 (omega (arith, long)) ∙ is)))

dot_at : (s : List ℕ) (n : ℕ) → 0 < n → n ≤ 3 → 3 < length s → get_or s n 0 ≡ 46 → HasDotEarly s
dot_at s zero some few long is = absurd (omega (arith, some))
dot_at s (suc zero) some few long is = (long, inl is)
dot_at s (suc (suc zero)) some few long is = (long, inr (inl is))
dot_at s (suc (suc (suc zero))) some few long is = (long, inr (inr is))
dot_at s (suc (suc (suc (suc n)))) some few long is = absurd (omega (arith, few))

-- each IPv4 address has one
ipv4_dot : (s : List ℕ) (a : Ipv4Addr) → IsIpv4Text s a → HasDotEarly s
ipv4_dot s a is =
    let behind = decimal is.c ++ (46 ∷ decimal is.d) in
    let rest = decimal is.b ++ (46 ∷ behind) in
    let shown : s ≡ decimal is.a ++ (46 ∷ rest) = is.spelled ∙ simp append_assoc in
    let wide : is.a < 2 ^ 64 = omega (arith, is.fit.0) in
    let some : 0 < length (decimal is.a) = decimal_nonempty is.a wide in
    let long : 3 < length s = omega (arith, some, ap length shown, length-append (decimal is.a) (46 ∷ rest), length-append (decimal is.b) (46 ∷ behind), length-append (decimal is.c) (46 ∷ decimal is.d)) in
    dot_at s (length (decimal is.a)) some (length-decimal-le 3 is.a (omega arith) (omega (arith, is.fit.0)) wide) long
    (ap (λ l. get_or l (length (decimal is.a)) 0) shown ∙ get_or-append_seam (decimal is.a) 46 rest 0)

writes_dot : (s : List ℕ) (net : Net Ipv4Addr) → WritesNetwork 32 ipv4_bits IsIpv4Text s net → HasDotEarly s
writes_dot s net (inl (base, digits, (is, _), address, _, _)) = subst HasDotEarly (sym is) (still_dot base (47 ∷ digits) (ipv4_dot base net.base address))
writes_dot s net (inr (_, address, _)) = ipv4_dot s net.base address

-- more may stand behind such a beginning
still_ipv4 : (s more : List ℕ) → MayBeIpv4 s → MayBeIpv4 (s ++ more)
still_ipv4 s more (inl dot) = inl (still_dot s more dot)
still_ipv4 s more (inr (rest, is)) = inr (rest ++ more, ap (λ l. l ++ more) is ∙ append_assoc (codes "default") rest more)

target_ipv4 : (s : List ℕ) (net : Net Ipv4Addr) → IsTarget 32 ipv4_bits IsIpv4Text s net → MayBeIpv4 s
target_ipv4 s net target = elim (full_of s) [
  | inl default ↦ inr ([], default.0)
  | inr same ↦ inl (writes_dot s net (subst (λ t. WritesNetwork 32 ipv4_bits IsIpv4Text t net) same target))
]

-- and so does each text that asks something of IPv4
says_ipv4 : (r : Request Ipv4Addr) (rest : List ℕ) → Says 32 ipv4_bits IsIpv4Text r rest → MayBeIpv4 rest
says_ipv4 (Add net hop) rest (front, (is, _), target, _) = subst MayBeIpv4 (sym is) (still_ipv4 front (32 ∷ hop) (target_ipv4 front net target))
says_ipv4 (Del net) rest says = target_ipv4 rest net says
says_ipv4 (Below net) rest says = target_ipv4 rest net says
says_ipv4 (Look address) rest says = inl (ipv4_dot rest address says)
says_ipv4 (Find address) rest says = inl (ipv4_dot rest address says)

pub no_ipv4 : (rest : List ℕ) → ¬ (MayBeIpv4 rest) → (r : Request Ipv4Addr) → ¬ (Says 32 ipv4_bits IsIpv4Text r rest)
no_ipv4 rest none r says = none (says_ipv4 r rest says)

-- what is wrong with a text
module _ (s : List ℕ) where
  -- a text with no space has no first word
  pub no_word : IsSplitOnceResult 32 s None → (word rest : List ℕ) → IsWorded s word rest → ⊥
  no_word found word rest parted = not_parted 32 s word rest found (lit< tt) parted

  -- and shows no hop
  pub no_space_no_hop : IsSplitOnceResult 32 s None → ShowsHop s → ⊥
  no_space_no_hop found (word, hop, parted, is) = no_word found word hop parted

  module _ (x : Bor (List ℕ) × Bor (List ℕ)) (found : IsSplitOnceResult 32 s (Some x)) where
    -- a hop is shown where one stands behind the space
    pub shown_hop : IsHop x.1.now → ShowsHop s
    shown_hop is = (x.0.now, x.1.now, split_parts 32 s (Some x) found (lit< tt), is)

    pub no_shown_hop : ¬ (IsHop x.1.now) → ShowsHop s → ⊥
    no_shown_hop wrong (word, hop, parted, is) = wrong (subst IsHop (sym (parted_once 32 s word hop x found (lit< tt) parted).1) is)
