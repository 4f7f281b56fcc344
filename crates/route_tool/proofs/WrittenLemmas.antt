-- What is written of a network is read as it.
use Rattle.std.proofs.Common.{[], ◌∷◌, zero, suc, append_assoc, ◌≢◌, inl, inr, ℕ, ◌<◌, ◌≤◌, ◌^◌, List, ◌++◌, All, EachIndex, arith, bytes_eq, get_or, take, drop, refl, sym, subst, codes, decimal}
use Rattle.std.proofs.NetLemmas.Alphabet.{IsDigitOrDot, IsHexOrColon, All-hex_groups_text, All-ipv4_text}
use Rattle.std.proofs.NetLemmas.Texts.{AllSegments, AllSegments-drop, IsColonHex-ipv6_text, IsDotted-ipv4_text}
use Rattle.std.proofs.lemmas.Bool.{cond_both}
use Rattle.std.proofs.lemmas.Fmt.{decimal_is_IsNumeral}
use Rattle.std.proofs.lemmas.List.Elements.{All-append, All-cons, All-nil, All-from_get_or, All-from_recursion, All-weaker}
use Rattle.std.proofs.lemmas.Str.{IsUtf8-append, IsUtf8-from_ascii}
use Rattle.std.proofs.lemmas.Str.Parse.{digit_at}
use Rattle.std.proofs.lemmas.Str.Ascii.{IsAscii-from_all}
use Rattle.std.specs.List.{AllByRecursion}
use Rattle.std.specs.Net.Addr.{IsIpv4Addr, IsIpv6Addr, ipv4_octets, ipv6_segments, octets_of}
use Rattle.std.specs.Net.Grammar.{IsIpv4Text, IsIpv6Text}
use Rattle.std.specs.Net.Text.{hex_groups_text, ipv4_text, ipv6_text}
use Rattle.std.specs.Str.{IsAscii, IsUtf8}
use Rattle.std.specs.declared.net.ipv4_addr.Ipv4Addr.{Ipv4Addr}
use Rattle.std.specs.declared.net.ipv6_addr.Ipv6Addr.{Ipv6Addr}
use Rattle.radix_keys.specs.Networks.{IsBase, IsNetText, IsParted, Net, net_text}
use Rattle.route_tool.proofs.CommandLemmas.{free_of, full_of, has_slash}
use Rattle.route_tool.specs.Answers.{addition}
use Rattle.route_tool.specs.Requests.{Add, Asks, IsHop, IsTarget, WritesNetwork}

-- an ASCII byte that is neither a slash nor a space
abbrev Plain : ℕ → Type 0
Plain b = (b ≢ 47) × (b ≢ 32) × (b < 128)

-- all of these are, in a record so that antt reads the list off a goal
pub record Free (bytes : List ℕ) : Type 0 where
  pub all : All Plain bytes

not_dotted : (b : ℕ) → IsDigitOrDot b → Plain b
not_dotted b (inl digit) = (λ is. omega (arith, digit, is), λ is. omega (arith, digit, is), omega (arith, digit))
not_dotted b (inr dot) = (λ is. omega (arith, dot, is), λ is. omega (arith, dot, is), omega (arith, dot))

not_hex : (b : ℕ) → IsHexOrColon b → Plain b
not_hex b (inl digit) = (λ is. omega (arith, digit, is), λ is. omega (arith, digit, is), omega (arith, digit))
not_hex b (inr letter) = (λ is. omega (arith, letter, is), λ is. omega (arith, letter, is), omega (arith, letter))

free_digits : (n : ℕ) → n < 2 ^ 8 → Free (decimal n)
free_digits n fits = record {
  all = All-from_get_or Plain (decimal n) 0 λ i h. not_dotted (get_or (decimal n) i 0) (inl (digit_at (decimal n) i (decimal_is_IsNumeral n (omega (arith, fits))).0.1 h));
}

free_dotted : (o : List ℕ) → ((k : ℕ) → get_or o k 0 < 2 ^ 8) → Free (ipv4_text o)
free_dotted o fits = record { all = All-weaker IsDigitOrDot Plain not_dotted (ipv4_text o) (All-ipv4_text o fits) }

fits_octets : (xs : List ℕ) → AllSegments xs → (k : ℕ) → get_or (octets_of xs) k 0 < 2 ^ 8
fits_octets [] fits k = omega arith
fits_octets (x ∷ xs) fits k =
    let later = fits_octets xs (λ j. fits (suc j)) in
    elim k as (λ j. get_or (octets_of (x ∷ xs)) j 0 < 2 ^ 8) [
      | zero ↦ omega (arith, fits 0)
      | suc j ↦ elim j as (λ i. get_or (octets_of (x ∷ xs)) (suc i) 0 < 2 ^ 8) [ zero ↦ omega arith | suc i ↦ later i ]
    ]

hexes : (i : ℕ) → i < 7 → IsHexOrColon (get_or (codes "::ffff:") i 0)
hexes zero h = inl (omega arith, omega arith)
hexes (suc zero) h = inl (omega arith, omega arith)
hexes (suc (suc zero)) h = inr (omega arith, omega arith)
hexes (suc (suc (suc zero))) h = inr (omega arith, omega arith)
hexes (suc (suc (suc (suc zero)))) h = inr (omega arith, omega arith)
hexes (suc (suc (suc (suc (suc zero))))) h = inr (omega arith, omega arith)
hexes (suc (suc (suc (suc (suc (suc zero)))))) h = inl (omega arith, omega arith)
hexes (suc (suc (suc (suc (suc (suc (suc i))))))) h = absurd (omega (arith, h))

mapped : All Plain (codes "::ffff:")
mapped = All-from_get_or Plain (codes "::ffff:") 0 λ i h. not_hex (get_or (codes "::ffff:") i 0) (hexes i h)

free_colons : (xs : List ℕ) → AllSegments xs → Free (ipv6_text xs)
unfolding ipv6_text
free_colons xs fits =
    let octets = octets_of (drop 6 xs) in
    let dotted = free_dotted octets (fits_octets (drop 6 xs) (AllSegments-drop 6 xs fits)) in
    cond_both (bytes_eq (take 6 xs) (0 ∷ 0 ∷ 0 ∷ 0 ∷ 0 ∷ 0xffff ∷ [])) (codes "::ffff:" ++ ipv4_text octets) (hex_groups_text xs) Free
    (λ _. record { all = All-append Plain (codes "::ffff:") (ipv4_text octets) mapped dotted.all })
    (λ _. record { all = All-weaker IsHexOrColon Plain not_hex (hex_groups_text xs) (All-hex_groups_text xs fits) })

module _ {A : Type 0} (w : ℕ) (number : A → ℕ) (writes : List ℕ → A → Type 0) (text : A → List ℕ) (net : Net A) (free : Free (text net.base)) (is : writes (text net.base) net.base) (base : IsBase w net.bits (number net.base)) where
  -- a slash parts the text
  parted : IsParted 47 (net_text text net) (text net.base) (decimal net.bits)
  parted = (append_assoc (text net.base) (codes "/") (decimal net.bits), λ i lt. (free.all i 0 lt).0)

  -- it is read as the network
  pub read_back : IsNetText w number writes (net_text text net) net
  read_back = (text net.base, decimal net.bits, parted, is, refl, base)

  -- the text is itself in full
  target : IsTarget w number writes (net_text text net) net
  target = elim (full_of (net_text text net)) [
    | inl default ↦
        absurd (has_slash (net_text text net) (text net.base) (decimal net.bits) parted
        (subst (λ l. EachIndex l (λ i. get_or l i 0 ≢ 47)) (sym default.0) (free_of 47 (codes "default") refl)))
    | inr same ↦ subst (λ t. WritesNetwork w number writes t net) (sym same) (inl read_back)
  ]

  module _ (narrow : w ≤ 128) (hop : List ℕ) where
    digits : Free (decimal net.bits)
    digits = free_digits net.bits (omega (arith, narrow, base.1))

    -- it has no space, and is ASCII
    spaceless : All (λ b. (b ≢ 32) × (b < 128)) (net_text text net)
    spaceless =
        let Q : ℕ → Type 0 = λ b. (b ≢ 32) × (b < 128) in
        let weaker : (l : List ℕ) → Free l → All Q l = λ l f. All-weaker Plain Q (λ b plain. (plain.1, plain.2)) l f.all in
        let slash : All Q (codes "/") = All-cons Q 47 [] (λ e. omega (arith, e), omega arith) (All-nil Q) in
        All-append Q (text net.base ++ codes "/") (decimal net.bits) (All-append Q (text net.base) (codes "/") (weaker (text net.base) free) slash) (weaker (decimal net.bits) digits)

    ascii : IsAscii (net_text text net)
    ascii = IsAscii-from_all (net_text text net) (All-weaker (λ b. (b ≢ 32) × (b < 128)) (λ b. b < 128) (λ b plain. plain.1) (net_text text net) spaceless)

    -- the line of its addition asks for it
    pub asks_for_it : IsHop hop → Asks w number writes (addition text (net, hop)) (Add net hop)
    asks_for_it is_hop = (
      net_text text net ++ codes " " ++ hop,
      (refl, free_of 32 (codes "add") refl),
      (net_text text net, (append_assoc (net_text text net) (codes " ") hop, λ i lt. (spaceless i 0 lt).0), target, is_hop),
    )

    -- and is a text
    pub is_utf8 : IsUtf8 hop → IsUtf8 (addition text (net, hop))
    is_utf8 utf8 =
        let low : (l : List ℕ) → AllByRecursion (λ b. b < 128) l → IsUtf8 l = λ l all. IsUtf8-from_ascii l (IsAscii-from_all l (All-from_recursion (λ b. b < 128) l all)) in
        let word : IsUtf8 (codes "add ") = low (codes "add ") (omega arith, (omega arith, (omega arith, (omega arith, tt)))) in
        let blank : IsUtf8 (codes " ") = low (codes " ") (omega arith, tt) in
        IsUtf8-append (codes "add " ++ net_text text net ++ codes " ") hop
        (IsUtf8-append (codes "add " ++ net_text text net) (codes " ") (IsUtf8-append (codes "add ") (net_text text net) word (IsUtf8-from_ascii (net_text text net) ascii)) blank) utf8

-- of both families
pub free_ipv4 : (a : Ipv4Addr) → IsIpv4Addr a → Free (ipv4_text (ipv4_octets a)) × IsIpv4Text (ipv4_text (ipv4_octets a)) a
free_ipv4 a is = (free_dotted _ is.1, IsDotted-ipv4_text _ is.0 is.1)

pub free_ipv6 : (a : Ipv6Addr) → IsIpv6Addr a → Free (ipv6_text (ipv6_segments a)) × IsIpv6Text (ipv6_text (ipv6_segments a)) a
free_ipv6 a is = (free_colons _ is.1, IsColonHex-ipv6_text _ is.0 is.1)
