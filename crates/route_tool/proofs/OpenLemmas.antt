-- Images that are opened in place of the routes of a family.
use Rattle.std.proofs.Common.{◌≡◌, ◌≢◌, ◌⊎◌, inl, inr, ℕ, List, Result, Ok, Err, IfErr, OnErr, OnOk, ap, refl}
use Rattle.std.specs.Net.Addr.{ipv4_bits, ipv6_bits}
use Rattle.std.specs.declared.net.ipv4_addr.Ipv4Addr.{Ipv4Addr}
use Rattle.std.specs.declared.net.ipv6_addr.Ipv6Addr.{Ipv6Addr}
use Rattle.flat_routes.specs.Images.{of_ipv4, of_ipv6}
use Rattle.frozen_networks.specs.Networks.{network_map}
use Rattle.route_tool.specs.Answers.{IsOpen, count_answer, count_of, open_answer}
use Rattle.route_tool.specs.RouteImages.{AreOpened, IsOpenFault}
use Rattle.route_tool.specs.Routes.{Route, Routes}
use Rattle.route_tool.specs.declared.images.OpenFault.{OpenFault}
use Rattle.route_tool.specs.declared.images.OpenFault.TheVariants.{Memory}
use Rattle.route_tool.specs.declared.table.Table.{Table}

module _ (bytes : List ℕ) (t : Table) (routes : Routes Ipv4Addr) (count : ℕ) (counted : count ≡ count_of (record { v4 = routes; v6 = t.v6 })) where
  -- of IPv4 the answer tells what was opened
  pub ipv4_opened : (outcome : Result (Unit {0}) OpenFault) → OnOk outcome ((rows : List (Route Ipv4Addr)) × AreOpened ipv4_bits of_ipv4 bytes rows × (routes ≡ network_map 32 ipv4_bits rows))
      → IfErr outcome (IsOpenFault of_ipv4 bytes) → OnErr outcome (routes ≡ t.v4) → outcome ≢ Err Memory → IsOpen bytes t (record { v4 = routes; v6 = t.v6 }) (open_answer count outcome)
  ipv4_opened (Ok done) (rows, opened, same) fault kept told = inl (rows, opened, ap (λ r. record { v4 = r; v6 = t.v6 }) same, ap count_answer counted)
  ipv4_opened (Err fault) opened because kept told = inr (inr (of_ipv4, fault, because, (λ e. told (ap Err e)), ap (λ r. record { v4 = r; v6 = t.v6 }) kept, refl))

  -- where its answer isn't written, too, or the table is as before
  pub ipv4_left : (outcome : Result (Unit {0}) OpenFault) → OnOk outcome ((rows : List (Route Ipv4Addr)) × AreOpened ipv4_bits of_ipv4 bytes rows × (routes ≡ network_map 32 ipv4_bits rows))
      → OnErr outcome (routes ≡ t.v4) → (record { v4 = routes; v6 = t.v6 } ≡ t) ⊎ ((answer : List ℕ) × IsOpen bytes t (record { v4 = routes; v6 = t.v6 }) answer)
  ipv4_left (Ok done) (rows, opened, same) kept = inr (count_answer count, inl (rows, opened, ap (λ r. record { v4 = r; v6 = t.v6 }) same, ap count_answer counted))
  ipv4_left (Err fault) opened kept = inl (ap (λ r. record { v4 = r; v6 = t.v6 }) kept)

module _ (bytes : List ℕ) (t : Table) (routes : Routes Ipv6Addr) (count : ℕ) (counted : count ≡ count_of (record { v4 = t.v4; v6 = routes })) where
  -- of IPv6 likewise
  pub ipv6_opened : (outcome : Result (Unit {0}) OpenFault) → OnOk outcome ((rows : List (Route Ipv6Addr)) × AreOpened ipv6_bits of_ipv6 bytes rows × (routes ≡ network_map 128 ipv6_bits rows))
      → IfErr outcome (IsOpenFault of_ipv6 bytes) → OnErr outcome (routes ≡ t.v6) → outcome ≢ Err Memory → IsOpen bytes t (record { v4 = t.v4; v6 = routes }) (open_answer count outcome)
  ipv6_opened (Ok done) (rows, opened, same) fault kept told = inr (inl (rows, opened, ap (λ r. record { v4 = t.v4; v6 = r }) same, ap count_answer counted))
  ipv6_opened (Err fault) opened because kept told = inr (inr (of_ipv6, fault, because, (λ e. told (ap Err e)), ap (λ r. record { v4 = t.v4; v6 = r }) kept, refl))

  pub ipv6_left : (outcome : Result (Unit {0}) OpenFault) → OnOk outcome ((rows : List (Route Ipv6Addr)) × AreOpened ipv6_bits of_ipv6 bytes rows × (routes ≡ network_map 128 ipv6_bits rows))
      → OnErr outcome (routes ≡ t.v6) → (record { v4 = t.v4; v6 = routes } ≡ t) ⊎ ((answer : List ℕ) × IsOpen bytes t (record { v4 = t.v4; v6 = routes }) answer)
  ipv6_left (Ok done) (rows, opened, same) kept = inr (count_answer count, inr (inl (rows, opened, ap (λ r. record { v4 = t.v4; v6 = r }) same, ap count_answer counted)))
  ipv6_left (Err fault) opened kept = inl (ap (λ r. record { v4 = t.v4; v6 = r }) kept)
