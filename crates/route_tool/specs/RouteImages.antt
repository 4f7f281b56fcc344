-- Images of the routes of one family: the value of a row is the place of its hop among the user's own bytes.
use Rattle.std.specs.Prelude.{◌≡◌, ℕ, ◌-◌, ◌^◌, ◌<◌, ◌≤◌, ◌⊎◌, Bool, false, List, [], ◌∷◌, ◌++◌, ⊤, Some, drop, length, slice_get, slice_index, take}
use Rattle.std.specs.List.{All, AllZip, flat_map}
use Rattle.std.specs.Int.{w64}
use Rattle.std.specs.Str.{IsUtf8}
use Rattle.line_sessions.specs.Lines.{HasNoFeed}
use Rattle.nibble_map.specs.Maps.{PairMap, value_at}
use Rattle.radix_keys.specs.Integers.{unsigned_key}
use Rattle.radix_keys.specs.Networks.{Net}
use Rattle.image_parts.specs.Parts.{HoldsPayload, IsPayload}
use Rattle.flat_routes.specs.Faults.{IsRouteFault}
use Rattle.flat_routes.specs.Images.{IsImage, image_rows}
use Rattle.route_tool.specs.Loads.{lines_in}
use Rattle.route_tool.specs.Numbers.{Numbers, IsNumberOf}
use Rattle.route_tool.specs.Requests.{IsHop}
use Rattle.route_tool.specs.Routes.{Route}
use Rattle.route_tool.specs.declared.images.OpenFault.{OpenFault}
use Rattle.route_tool.specs.declared.images.OpenFault.TheVariants.{Memory, Image, Hop}

-- a line begins at the place: it is the first, or a line feed stands before it
abbrev pub IsLineStart : List ℕ → ℕ → Type 0
IsLineStart bytes place = (place ≡ 0) ⊎ (slice_index bytes (place - 1) ≡ 10)

-- the line that begins at the place is this hop
pub record IsHopAt (bytes : List ℕ) (place : ℕ) (hop : List ℕ) : Type 0 where
  pub begins : IsLineStart bytes place
  pub left : List (List ℕ)
  pub lines : lines_in (drop place bytes) ≡ hop ∷ left
  pub text : IsUtf8 hop
  pub is_hop : IsHop hop

-- some hop is
abbrev pub HasHopAt : List ℕ → ℕ → Type 0
HasHopAt bytes place = (hop : List ℕ) × IsHopAt bytes place hop

-- the hops that were made of lines, by the places at which these begin
abbrev pub AreHopsOf : (own : List ℕ) → PairMap ℕ (List ℕ) → Type 0
AreHopsOf own m = (place : ℕ) (hop : List ℕ) → place < 2 ^ 64
    → value_at m (unsigned_key w64 place) ≡ Some hop → IsHopAt own place hop

-- the user's own bytes in an image, none where it lists no such part
abbrev pub AreOwnBytes : (image own : List ℕ) → Type 0
AreOwnBytes image own =
    HoldsPayload image own
    ⊎ (((place size : ℕ) → IsPayload image place size → ⊥) × (own ≡ []))

-- the row at the index i is the first whose value is no place of a hop
pub record IsFirstHopless (own : List ℕ) (rows : List (Net ℕ × ℕ)) (i : ℕ) : Type 0 where
  pub row : Net ℕ × ℕ
  pub stored : slice_get rows i ≡ Some row
  pub lacks : HasHopAt own row.1 → ⊥
  pub before : All (λ r. HasHopAt own r.1) (take i rows)

-- why rows have no hops: one points to none
abbrev pub IsHopFault : (own : List ℕ) (rows : List (Net ℕ × ℕ)) → OpenFault → Type 0
IsHopFault own rows Memory = ⊤
IsHopFault own rows (Image why) = ⊥
IsHopFault own rows (Hop i) = IsFirstHopless own rows i

-- why bytes aren't opened: they are no image, or of an image memory is refused, or a row of it points to no hop
abbrev pub IsOpenFault : Bool → (image : List ℕ) → OpenFault → Type 0
IsOpenFault wide image Memory = IsImage wide image
IsOpenFault wide image (Image why) = IsRouteFault wide image why
IsOpenFault wide image (Hop i) = IsImage wide image
    × (own : List ℕ) × AreOwnBytes image own × IsFirstHopless own (image_rows wide image) i

-- addresses have these numbers
module _ {A : Type 0} (number : A → ℕ) where
  -- the route is to the network of a row, and its hop is the one at the place that is the row's value
  pub record IsOpenedOf (own : List ℕ) (route : Route A) (row : Net ℕ × ℕ) : Type 0 where
    pub base : number route.0.base ≡ row.0.base
    pub bits : route.0.bits ≡ row.0.bits
    pub hop : IsHopAt own row.1 route.1

  -- the bytes are an image of the routes: of its rows each is one's network with its hop
  pub record AreOpened (wide : Bool) (image : List ℕ) (routes : List (Route A)) : Type 0 where
    pub is_image : IsImage wide image
    pub own : List ℕ
    pub are_own : AreOwnBytes image own
    pub rows : AllZip (IsOpenedOf own) routes (image_rows wide image)

-- a hop that is a line
pub record IsLineHop (hop : List ℕ) : Type 0 where
  pub text : IsUtf8 hop
  pub is_hop : IsHop hop
  pub free : HasNoFeed hop

-- the hop stands at the place, where a line begins, and a line feed behind it
pub record IsWrittenAt (own : List ℕ) (place : ℕ) (hop : List ℕ) : Type 0 where
  pub begins : IsLineStart own place
  pub rest : List ℕ
  pub line : drop place own ≡ hop ++ 10 ∷ rest

-- a row has the route's network, and the place at which its hop stands
pub record IsWrittenRow {A : Type 0} (own : List ℕ) (route : Route A) (row : Net A × ℕ) : Type 0 where
  pub network : row.0 ≡ route.0
  pub hop : IsWrittenAt own row.1 route.1

-- the numbers of hops are the places at which they stand, and what comes behind all of them begins a line
pub record AreLaidAt (m : Numbers) (own : List ℕ) : Type 0 where
  pub hops : (hop : List ℕ) (place : ℕ) → IsNumberOf m hop place → IsWrittenAt own place hop
  pub ended : IsLineStart own (length own)

-- there are 2^32 rows or more, or a value of IPv4 is too large
abbrev pub AreTooMany : {A : Type 0} → Bool → List (Net A × ℕ) → Type 0
AreTooMany wide rows = (2 ^ 32 ≤ length rows)
    ⊎ ((wide ≡ false) × (All (λ r. r.1 < 2 ^ 32) rows → ⊥))

-- how many bytes the hops of routes take, a line each
abbrev pub hops_size : {A : Type 0} → List (Route A) → ℕ
hops_size routes = length (flat_map (λ r. r.1 ++ 10 ∷ []) routes)

-- there are 2^32 routes or more, or of IPv4 their hops take as many bytes
abbrev pub AreTooLong : {A : Type 0} → Bool → List (Route A) → Type 0
AreTooLong wide routes = (2 ^ 32 ≤ length routes) ⊎ ((wide ≡ false) × (2 ^ 32 ≤ hops_size routes))
