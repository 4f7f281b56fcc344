use Rattle.std.proofs.Common.{◌≡◌, inl, inr, ap, arith, length, sym, subst}
use Rattle.radix_trie.specs.Combinations.{AreParted, lead, own_of, row_of_branch}
use Rattle.radix_trie.specs.declared.iter.combination.branches.Turn.TheVariants as turn
use Rattle.radix_trie.proofs.CombinationLemmas.Parted.{led_by, led_on}
use Rattle.radix_trie.proofs.iter.combination.branches.Branches.part.Goals.{in-First, in-Second, in-Both}
use Rattle.radix_trie.proofs.iter.combination.branches.Branches.part.Goals as goal

pub cut-requires-clause-some : goal.cut-requires-clause-some
cut-requires-clause-some g c =
    let led = led_by _ _ _ (turn.Both c.in-Both.nibbles) c.in-Both.is (λ (same : turn.Both c.in-Both.nibbles ≡ turn.End). cc) c.next_turn.ensures.on c.next_turn.ensures.some in
    omega (arith, led.1)

pub cut-requires-in-Both-clause-some : goal.cut-requires-in-Both-clause-some
cut-requires-in-Both-clause-some g c =
    let led = led_by _ _ _ (turn.Both c.in-Both.nibbles) c.in-Both.is (λ (same : turn.Both c.in-Both.nibbles ≡ turn.End). cc) c.next_turn.ensures.on c.next_turn.ensures.some in
    omega (arith, led.1)

pub returns-clause-parted : goal.returns-clause-parted
returns-clause-parted g c =
    let b = c.args.self.now in
    elim c.match-next_turn.branch [
      | in-First w ↦
          let led = led_by _ _ _ turn.First w.in-First.is (λ (same : turn.First ≡ turn.End). cc) c.next_turn.ensures.on c.next_turn.ensures.some in
          subst (λ p. AreParted b (record { first = p.0.0; second = p.1.0 }) (record { first = p.0.1; second = p.1.1 })) (sym w.parts-is)
          (led_on b _ _ c.requires.first c.requires.second w.enter.ensures.beside w.rest.ensures.own (length (lead (row_of_branch b.first))) 0 (inl (omega (arith, led.1))) led.0
          w.enter.ensures.cut (ap own_of w.empty.ensures.own, w.empty.ensures.row, w.rest.ensures.row))
      | in-Second w ↦
          let led = led_by _ _ _ turn.Second w.in-Second.is (λ (same : turn.Second ≡ turn.End). cc) c.next_turn.ensures.on c.next_turn.ensures.some in
          subst (λ p. AreParted b (record { first = p.0.0; second = p.1.0 }) (record { first = p.0.1; second = p.1.1 })) (sym w.parts-is)
          (led_on b _ _ c.requires.first c.requires.second w.rest-in-Second.ensures.own w.enter-in-Second.ensures.beside 0 (length (lead (row_of_branch b.second))) (inr (omega (arith, led.1))) led.0
          (ap own_of w.empty-in-Second.ensures.own, w.empty-in-Second.ensures.row, w.rest-in-Second.ensures.row) w.enter-in-Second.ensures.cut)
      | in-Both w ↦
          let led = led_by _ _ _ (turn.Both w.in-Both.nibbles) w.in-Both.is (λ (same : turn.Both w.in-Both.nibbles ≡ turn.End). cc) c.next_turn.ensures.on c.next_turn.ensures.some in
          subst (λ p. AreParted b (record { first = p.0.0; second = p.1.0 }) (record { first = p.0.1; second = p.1.1 })) (sym w.parts-is)
          (led_on b _ _ c.requires.first c.requires.second w.cut.ensures.beside w.cut-in-Both.ensures.beside w.in-Both.nibbles w.in-Both.nibbles (inl (omega (arith, led.1))) led.0
          w.cut.ensures.cut w.cut-in-Both.ensures.cut)
    ]
