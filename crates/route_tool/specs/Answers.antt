-- What is answered to a request.
use Rattle.std.specs.Prelude.{◌≡◌, ◌≢◌, Bool, ℕ, ◌+◌, List, [], ◌∷◌, ◌++◌, ◌⊎◌, length, flat_map, Option, None, Some, Result, Ok, Err, codes, decimal}
use Rattle.std.specs.Net.Addr.{ipv4_bits, ipv6_bits, ipv4_octets, ipv6_segments}
use Rattle.std.specs.Net.Text.{ipv4_text, ipv6_text}
use Rattle.std.specs.declared.net.ipv4_addr.Ipv4Addr.{Ipv4Addr}
use Rattle.std.specs.declared.net.ipv6_addr.Ipv6Addr.{Ipv6Addr}
use Rattle.radix_keys.specs.Networks.{net_text}
use Rattle.whole_files.specs.Faults.{file_fault_text}
use Rattle.whole_files.specs.declared.fault.FileFault.{FileFault}
use Rattle.route_tool.specs.Aggregates.{IsAggregate}
use Rattle.flat_routes.specs.Images.{of_ipv4, of_ipv6}
use Rattle.frozen_networks.specs.Networks.{network_map}
use Rattle.image_parts.specs.declared.errors.ImageError.{ImageError}
use Rattle.image_parts.specs.declared.errors.ImageError.TheVariants as image
use Rattle.route_tool.specs.Loads.{AreCarriedOut, IsFirstBad, IsLoadedInPart, lines_in}
use Rattle.route_tool.specs.Reasons.{reason_text}
use Rattle.route_tool.specs.RouteImages.{AreOpened, AreTooLong, IsOpenFault}
use Rattle.route_tool.specs.Requests.{Request, Add, Del, Below, Look, Find, Asked, V4, V6, Len, All, Dump, Aggregate, Compact, OnFile, Help, Comment}
use Rattle.route_tool.specs.Routes.{Route, Routes, IsLongestRoute, hop_at, hop_of, in_order, routes_within, with_route, without_route}
use Rattle.route_tool.specs.declared.command.FileCall.{FileCall}
use Rattle.route_tool.specs.declared.command.FileCall.TheVariants.{Load, Open, WriteIpv4, WriteIpv6}
use Rattle.route_tool.specs.declared.images.OpenFault.{OpenFault}
use Rattle.route_tool.specs.declared.images.OpenFault.TheVariants as opening
use Rattle.route_tool.specs.declared.reason.Reason.{Reason}
use Rattle.route_tool.specs.declared.help.TheConstants.{HELP}
use Rattle.route_tool.specs.declared.table.Table.{Table}

-- of an added route, by the hop that its network had
abbrev pub added_answer : Option (List ℕ) → List ℕ
added_answer None = codes "new\n"
added_answer (Some hop) = codes "old " ++ hop ++ 10 ∷ []

-- a hop, or that there is none
abbrev pub hop_answer : Option (List ℕ) → List ℕ
hop_answer None = codes "none\n"
hop_answer (Some hop) = hop ++ 10 ∷ []

-- of a bad line, by what is told of it
abbrev pub bad_answer : List ℕ → List ℕ
bad_answer remark = codes "bad line: " ++ remark ++ 10 ∷ []

-- how many routes there are
abbrev pub count_answer : ℕ → List ℕ
count_answer count = decimal count ++ 10 ∷ []

-- what is written of an address
module _ {A : Type 0} (text : A → List ℕ) where
  -- a network, a space and its hop
  abbrev pub row : Route A → List ℕ
  row r = net_text text r.0 ++ codes " " ++ r.1 ++ 10 ∷ []

  -- the line that asks for the addition of the route
  abbrev pub addition : Route A → List ℕ
  addition r = codes "add " ++ net_text text r.0 ++ codes " " ++ r.1

  -- a row, or that there is none
  abbrev pub find_answer : Option (Route A) → List ℕ
  find_answer None = codes "none\n"
  find_answer (Some r) = row r

  -- how many routes there are, and then each
  abbrev pub below_answer : List (Route A) → List ℕ
  below_answer routes = count_answer (length routes) ++ flat_map row routes

  -- the answer to a request of one family, and its routes after it
  abbrev pub IsReply : (w : ℕ) (number : A → ℕ) → Request A → Routes A → Routes A → List ℕ → Type 0
  IsReply w number (Add net hop) m n answer =
      (answer ≡ added_answer (hop_at w number m net)) × (n ≡ with_route w number m net hop)
  IsReply w number (Del net) m n answer =
      (answer ≡ hop_answer (hop_at w number m net)) × (n ≡ without_route w number m net)
  IsReply w number (Below net) m n answer =
      (answer ≡ below_answer (routes_within w number m net)) × (n ≡ m)
  IsReply w number (Look address) m n answer = (found : Option (Route A))
      × IsLongestRoute w number m (number address) found × (answer ≡ hop_answer (hop_of found)) × (n ≡ m)
  IsReply w number (Find address) m n answer = (found : Option (Route A))
      × IsLongestRoute w number m (number address) found × (answer ≡ find_answer found) × (n ≡ m)

abbrev pub ipv4_row : Route Ipv4Addr → List ℕ
ipv4_row r = row (λ a. ipv4_text (ipv4_octets a)) r

abbrev pub ipv6_row : Route Ipv6Addr → List ℕ
ipv6_row r = row (λ a. ipv6_text (ipv6_segments a)) r

-- how many routes there are of both families
abbrev pub count_of : Table → ℕ
count_of t = length (in_order t.v4) + length (in_order t.v6)

-- how many routes there are, and then each, those of IPv4 first
abbrev pub rows_answer : List (Route Ipv4Addr) → List (Route Ipv6Addr) → List ℕ
rows_answer v4 v6 = count_answer (length v4 + length v6)
    ++ flat_map ipv4_row v4 ++ flat_map ipv6_row v6

-- all routes
abbrev pub list_answer : Table → List ℕ
list_answer t = rows_answer (in_order t.v4) (in_order t.v6)

abbrev pub ipv4_addition : Route Ipv4Addr → List ℕ
ipv4_addition r = addition (λ a. ipv4_text (ipv4_octets a)) r

abbrev pub ipv6_addition : Route Ipv6Addr → List ℕ
ipv6_addition r = addition (λ a. ipv6_text (ipv6_segments a)) r

-- a line for each route, those of IPv4 first
abbrev pub dump_answer : Table → List ℕ
dump_answer t = flat_map (λ r. ipv4_addition r ++ 10 ∷ []) (in_order t.v4)
    ++ flat_map (λ r. ipv6_addition r ++ 10 ∷ []) (in_order t.v6)

-- the least lists of routes that give each address of their family the hop that the table gives it
abbrev pub IsAggregateAnswer : Table → List ℕ → Type 0
IsAggregateAnswer t answer = (v4 : List (Route Ipv4Addr)) × (v6 : List (Route Ipv6Addr))
    × IsAggregate 32 ipv4_bits t.v4 v4 × IsAggregate 128 ipv6_bits t.v6 v6
    × (answer ≡ rows_answer v4 v6)

-- of a file that isn't read
abbrev pub no_file_answer : FileFault → List ℕ
no_file_answer fault = codes "no file: " ++ file_fault_text fault ++ 10 ∷ []

-- of the first bad line of a file
abbrev pub bad_edit_answer : ℕ → Reason → List ℕ
bad_edit_answer n reason = codes "bad line " ++ decimal n ++ codes ": " ++ reason_text reason ++ 10 ∷ []

-- a text is loaded: all its lines are carried out, or none, where one is bad
abbrev pub IsLoad : (text : List ℕ) → Table → Table → List ℕ → Type 0
IsLoad text t u answer =
    (AreCarriedOut (lines_in text) t u × (answer ≡ count_answer (count_of u)))
    ⊎ ((n : ℕ) × (reason : Reason) × IsFirstBad (lines_in text) n reason × (u ≡ t)
    × (answer ≡ bad_edit_answer n reason))

-- a file is loaded, whatever it holds, or it isn't read
abbrev pub IsFileLoad : Table → Table → List ℕ → Type 0
IsFileLoad t u answer =
    ((text : List ℕ) × IsLoad text t u answer)
    ⊎ ((fault : FileFault) × (u ≡ t) × (answer ≡ no_file_answer fault))

-- what is wrong with bytes that are no image; an index is counted from 0
abbrev pub image_error_text : ImageError → List ℕ
image_error_text image.Short = codes "short"
image_error_text image.Mark = codes "mark"
image_error_text image.Version = codes "version"
image_error_text (image.Part i) = codes "part " ++ decimal i
image_error_text (image.Row i) = codes "row " ++ decimal i
image_error_text (image.Span i) = codes "span " ++ decimal i
image_error_text (image.Cell i) = codes "cell " ++ decimal i

-- why bytes aren't opened
abbrev pub open_fault_text : OpenFault → List ℕ
open_fault_text opening.Memory = codes "out of memory"
open_fault_text (opening.Image why) = image_error_text why
open_fault_text (opening.Hop i) = codes "hop of row " ++ decimal i

-- of bytes that are no image of routes with hops
abbrev pub no_image_answer : List ℕ → List ℕ
no_image_answer why = codes "no image: " ++ why ++ 10 ∷ []

-- of bytes that are opened or not, by how many routes there are then
abbrev pub open_answer : ℕ → Result (Unit {0}) OpenFault → List ℕ
open_answer count (Ok done) = count_answer count
open_answer count (Err fault) = no_image_answer (open_fault_text fault)

-- bytes are opened: the routes of their family are those of the image, or, where they are no image of routes with hops,
-- all is as before
abbrev pub IsOpen : (bytes : List ℕ) → Table → Table → List ℕ → Type 0
IsOpen bytes t u answer =
    ((rows : List (Route Ipv4Addr)) × AreOpened ipv4_bits of_ipv4 bytes rows
    × (u ≡ record { v4 = network_map 32 ipv4_bits rows; v6 = t.v6 }) × (answer ≡ count_answer (count_of u)))
    ⊎ (((rows : List (Route Ipv6Addr)) × AreOpened ipv6_bits of_ipv6 bytes rows
    × (u ≡ record { v4 = t.v4; v6 = network_map 128 ipv6_bits rows }) × (answer ≡ count_answer (count_of u)))
    ⊎ ((wide : Bool) × (fault : OpenFault) × IsOpenFault wide bytes fault × (fault ≢ opening.Memory) × (u ≡ t)
    × (answer ≡ no_image_answer (open_fault_text fault))))

-- a file is opened, whatever it holds, or it isn't read
abbrev pub IsFileOpen : Table → Table → List ℕ → Type 0
IsFileOpen t u answer =
    ((bytes : List ℕ) × IsOpen bytes t u answer)
    ⊎ ((fault : FileFault) × (u ≡ t) × (answer ≡ no_file_answer fault))

-- all routes of a family are written to a file; or there is none, or they are too many for an image
abbrev pub IsFileWrite : {A : Type 0} → Bool → List (Route A) → List ℕ → Type 0
IsFileWrite wide routes answer =
    (answer ≡ count_answer (length routes))
    ⊎ (((fault : FileFault) × (answer ≡ no_file_answer fault))
    ⊎ (AreTooLong wide routes × (answer ≡ no_image_answer (codes "full"))))

-- the answer to what is done with a file, and the table after it
abbrev pub IsFileAnswer : FileCall → Table → Table → List ℕ → Type 0
IsFileAnswer Load t u answer = IsFileLoad t u answer
IsFileAnswer Open t u answer = IsFileOpen t u answer
IsFileAnswer WriteIpv4 t u answer = IsFileWrite of_ipv4 (in_order t.v4) answer × (u ≡ t)
IsFileAnswer WriteIpv6 t u answer = IsFileWrite of_ipv6 (in_order t.v6) answer × (u ≡ t)

-- memory was refused while a file was loaded
abbrev pub IsFileBegun : FileCall → Table → Table → Type 0
IsFileBegun Load t u = (text : List ℕ) × IsLoadedInPart text t u
IsFileBegun call t u = ⊥

-- memory was refused while what is asked was carried out
abbrev pub IsBegun : Asked → Table → Table → Type 0
IsBegun (OnFile call path) t u = IsFileBegun call t u
IsBegun c t u = ⊥

-- the answer to what is asked, and the table after it
abbrev pub IsAnswer : Asked → Table → Table → List ℕ → Type 0
IsAnswer (V4 r) t u answer =
    IsReply (λ a. ipv4_text (ipv4_octets a)) 32 ipv4_bits r t.v4 u.v4 answer × (u.v6 ≡ t.v6)
IsAnswer (V6 r) t u answer =
    IsReply (λ a. ipv6_text (ipv6_segments a)) 128 ipv6_bits r t.v6 u.v6 answer × (u.v4 ≡ t.v4)
IsAnswer Len t u answer = (answer ≡ count_answer (count_of t)) × (u ≡ t)
IsAnswer All t u answer = (answer ≡ list_answer t) × (u ≡ t)
IsAnswer Dump t u answer = (answer ≡ dump_answer t) × (u ≡ t)
IsAnswer Aggregate t u answer = IsAggregateAnswer t answer × (u ≡ t)
IsAnswer Compact t u answer = (answer ≡ count_answer (count_of t)) × (u ≡ t)
IsAnswer (OnFile call path) t u answer = IsFileAnswer call t u answer
IsAnswer Help t u answer = (answer ≡ HELP.now) × (u ≡ t)
IsAnswer Comment t u answer = (answer ≡ []) × (u ≡ t)
