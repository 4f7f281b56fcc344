-- What a line asks for.
use Rattle.std.specs.Prelude.{◌≡◌, ◌≢◌, ℕ, ◌-◌, ◌<◌, ◌⊎◌, EachIndex, List, bytes_eq, if◌then◌else◌, length, slice_index, codes}
use Rattle.std.specs.Net.Addr.{ipv4_bits, ipv6_bits}
use Rattle.std.specs.Net.Grammar.{IsIpv4Text, IsIpv6Text}
use Rattle.std.specs.Str.{IsUtf8}
use Rattle.std.specs.declared.net.ipv4_addr.Ipv4Addr.{Ipv4Addr}
use Rattle.std.specs.declared.net.ipv6_addr.Ipv6Addr.{Ipv6Addr}
use Rattle.line_sessions.specs.Answers.{Begins}
use Rattle.radix_keys.specs.Networks.{Net, IsNetText, IsParted}
use Rattle.route_tool.specs.declared.command.FileCall.{FileCall}
use Rattle.route_tool.specs.declared.command.FileCall.TheVariants.{Load, Open, WriteIpv4, WriteIpv6}

-- what is asked of the routes of one family
pub data Request (A : Type 0) : Type 0 where
  Add : (net : Net A) (hop : List ℕ) → Request A
  Del : (net : Net A) → Request A
  Below : (net : Net A) → Request A
  Look : (address : A) → Request A
  Find : (address : A) → Request A

-- what is asked of a table
pub data Asked : Type 0 where
  V4 : Request Ipv4Addr → Asked
  V6 : Request Ipv6Addr → Asked
  Len : Asked
  All : Asked
  Dump : Asked
  Aggregate : Asked
  Compact : Asked
  OnFile : (call : FileCall) (path : List ℕ) → Asked
  Help : Asked
  Comment : Asked

-- a text of one byte or more, the first and the last of them no space
abbrev pub IsHop : List ℕ → Type 0
IsHop hop =
    (0 < length hop) × (slice_index hop 0 ≢ 32) × (slice_index hop (length hop - 1) ≢ 32)

-- the word for what is done with a file
abbrev pub file_word : FileCall → List ℕ
file_word Load = codes "load"
file_word Open = codes "open"
file_word WriteIpv4 = codes "write_ipv4"
file_word WriteIpv6 = codes "write_ipv6"

-- the word that a request begins with
abbrev pub word_of : {A : Type 0} → Request A → List ℕ
word_of (Add net hop) = codes "add"
word_of (Del net) = codes "del"
word_of (Below net) = codes "below"
word_of (Look address) = codes "look"
word_of (Find address) = codes "find"

-- the text of a network in full: default stands for the network of all IPv4 addresses
abbrev pub in_full : List ℕ → List ℕ
in_full word = if bytes_eq word (codes "default") then codes "0.0.0.0/0" else word

-- addresses have w bits and these numbers, and are written by these texts
module _ {A : Type 0} (w : ℕ) (number : A → ℕ) (writes : List ℕ → A → Type 0) where
  -- the word has no slash, and writes an address: that of a network of this address alone
  abbrev pub IsHostText : List ℕ → Net A → Type 0
  IsHostText word net =
      EachIndex word (λ i. slice_index word i ≢ 47) × writes word net.base × (net.bits ≡ w)

  -- the word writes the network, with the count of its bits or without
  abbrev pub WritesNetwork : List ℕ → Net A → Type 0
  WritesNetwork word net = IsNetText w number writes word net ⊎ IsHostText word net

  -- the word in full writes the network
  abbrev pub IsTarget : List ℕ → Net A → Type 0
  IsTarget word net = WritesNetwork (in_full word) net

  -- a network, a space and a hop
  abbrev pub IsAddition : List ℕ → Net A → List ℕ → Type 0
  IsAddition rest net hop =
      (word : List ℕ) × IsParted 32 rest word hop × IsTarget word net × IsHop hop

  -- what stands behind the word of a request and a space
  abbrev pub Says : Request A → (rest : List ℕ) → Type 0
  Says (Add net hop) rest = IsAddition rest net hop
  Says (Del net) rest = IsTarget rest net
  Says (Below net) rest = IsTarget rest net
  Says (Look address) rest = writes rest address
  Says (Find address) rest = writes rest address

  -- a word, a space and what stands behind it
  abbrev pub Asks : List ℕ → Request A → Type 0
  Asks text r = (rest : List ℕ) × IsParted 32 text (word_of r) rest × Says r rest

-- one of the first bytes is a dot, as in each text that begins with an IPv4 address
abbrev pub HasDotEarly : List ℕ → Type 0
HasDotEarly text =
    (3 < length text)
    × ((slice_index text 1 ≡ 46) ⊎ (slice_index text 2 ≡ 46) ⊎ (slice_index text 3 ≡ 46))

-- the text begins as each one does that asks something of IPv4 routes behind its first word
abbrev pub MayBeIpv4 : List ℕ → Type 0
MayBeIpv4 text = HasDotEarly text ⊎ Begins (codes "default") text

-- what a text asks for
abbrev pub IsTextRequest : List ℕ → Asked → Type 0
IsTextRequest text (V4 r) = Asks 32 ipv4_bits IsIpv4Text text r
IsTextRequest text (V6 r) = Asks 128 ipv6_bits IsIpv6Text text r
IsTextRequest text Len = text ≡ codes "len"
IsTextRequest text All = text ≡ codes "list"
IsTextRequest text Dump = text ≡ codes "dump"
IsTextRequest text Aggregate = text ≡ codes "aggregate"
IsTextRequest text Compact = text ≡ codes "compact"
IsTextRequest text (OnFile call path) = IsParted 32 text (file_word call) path
IsTextRequest text Help = text ≡ codes "help"
IsTextRequest text Comment = ⊥

-- what a line asks for: nothing, where it begins with #, and else what its text does
abbrev pub IsRequest : List ℕ → Asked → Type 0
IsRequest line c =
    ((slice_index line 0 ≡ 35) × (c ≡ Comment)) ⊎ (IsUtf8 line × IsTextRequest line c)
