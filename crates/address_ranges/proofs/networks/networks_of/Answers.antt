use Rattle.std.proofs.Common.{◌≡◌, ℕ, ◌-◌, ◌*◌, ◌≤◌, List, length, ap, subst, sym, ◌∙◌, arith}
use Rattle.std.specs.List.{AllPairs}
use Rattle.radix_keys.specs.Networks.{Net}
use Rattle.address_ranges.specs.Ranges.{AreNetworksOf, EndsBefore, networks_between, networks_left}
use Rattle.address_ranges.proofs.CountLemmas.{few}
use Rattle.address_ranges.proofs.CutLemmas.{off}
use Rattle.address_ranges.proofs.LeastLemmas.{least}
use Rattle.address_ranges.proofs.RangeLemmas.{all_rise, are_networks, everything, nothing}
use Rattle.address_ranges.proofs.networks.networks_of.Goals.{then-is_range, else-is_range}
use Rattle.address_ranges.proofs.networks.networks_of.Goals as goal

-- the walk goes over the networks of the range
is_walk : (g : _) (c : goal.Joined-is_range g) → networks_left g.A.Address.BITS g.A.Address.number c.if-is_range.result
    ≡ networks_between g.A.Address.BITS (g.A.Address.number c.args.first) (g.A.Address.number c.args.last)
is_walk g c =
    let w = g.A.Address.BITS in
    let number = g.A.Address.number in
    elim c.if-is_range.branch [
      | then-is_range t ↦ ap (networks_left w number) t.result-is
      | else-is_range t ↦
          ap (networks_left w number) t.result-is
          ∙ sym (off w (number c.args.first) (number c.args.last) w 0
          (λ a p q r s. omega (arith, r, s, t.if-is_range.false, c.to_number.ensures.value, c.to_number-2.ensures.value)))
    ]

pub returns : goal.returns
returns g c =
    let w = g.A.Address.BITS in
    let m = g.A.Address.number c.args.first in
    let n = g.A.Address.number c.args.last in
    let is = is_walk g c in
    record {
      exact = subst (AreNetworksOf w m n) (sym is) (are_networks w m n);
      least = λ others h. subst (λ (xs : List (Net ℕ)). length xs ≤ length others) (sym is) (least w m n others h);
      rising = subst (AllPairs (EndsBefore w)) (sym is) (all_rise w m n);
      few = λ some. subst (λ (xs : List (Net ℕ)). length xs ≤ 2 * w - 2) (sym is) (few w m n some);
      whole = λ p q. is ∙ everything w m n p q;
      none = λ less. is ∙ nothing w m n less;
      walk = is;
    }
