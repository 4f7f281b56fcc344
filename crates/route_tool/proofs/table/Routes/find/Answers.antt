-- Frozen routes that aren't none are all.
use Rattle.std.proofs.Common.{◌≡◌, ◌∙◌, IfOk, ap, inl, inr, length, option_map, refl, subst, sym}
use Rattle.frozen_routes.specs.Routes.{IsLongestRow, row_of_refs}
use Rattle.nibble_map.proofs.ListLemmas.Cut.{empty_of_length}
use Rattle.radix_keys.specs.Networks.{Net}
use Rattle.radix_trie.specs.Walks.{deref_pair}
use Rattle.route_tool.specs.Routes.{AreNetworks, IsLongestRoute, held_routes, in_order}
use Rattle.route_tool.proofs.HeldLemmas.{with_no_rows}
use Rattle.route_tool.proofs.ListedLemmas.{longest_row}
use Rattle.route_tool.proofs.table.Routes.find.Goals as goal

pub find_in_trie-requires : goal.find_in_trie-requires
find_in_trie-requires g c =
    let w = g.A.Address.BITS in
    let number = g.A.Address.number in
    let m = c.self.inside.trie in
    let rows = c.self.inside.frozen.rows in
    subst (AreNetworks w number) (with_no_rows w number m rows (empty_of_length rows (c.is_empty.ensures.0 c.if-is_empty.true))) c.self.invariant.0

pub returns-then-is_empty-clause-longest : goal.returns-then-is_empty-clause-longest
returns-then-is_empty-clause-longest g c =
    let w = g.A.Address.BITS in
    let number = g.A.Address.number in
    let m = c.self.inside.trie in
    let rows = c.self.inside.frozen.rows in
    let same = with_no_rows w number m rows (empty_of_length rows (c.is_empty.ensures.0 c.if-is_empty.true)) in
    subst (λ k. IfOk c.find_in_trie.result (λ found. IsLongestRoute w number k (number c.args.address) (option_map deref_pair found))) (sym same ∙ c.self.view_is) c.find_in_trie.ensures.longest

pub returns-clause-longest : goal.returns-clause-longest
returns-clause-longest g c =
    let w = g.A.Address.BITS in
    let number = g.A.Address.number in
    let m = c.self.inside.trie in
    let rows = c.self.inside.frozen.rows in
    let found = option_map row_of_refs c.longest_match.result in
    let alone : Net _ = record { base = c.args.address; bits = w } in
    let held = (c.addresses_ask_as_networks.ensures.longest w number rows alone found c.rows.ensures.rising refl).0 c.longest_match.ensures.row in
    let all : rows ≡ in_order (held_routes w number m rows) = elim c.self.invariant.1 [
      | inl none ↦ absurd (let empty = c.is_empty.ensures.1 (ap length none) in let some = c.if-is_empty.false in cc)
      | inr same ↦ same
    ] in
    rw (← c.self.view_is)
    (longest_row w number (held_routes w number m rows) c.self.invariant.0 (number c.args.address) found
    (subst (λ rows. IsLongestRow w number rows (number c.args.address) found) all held))
