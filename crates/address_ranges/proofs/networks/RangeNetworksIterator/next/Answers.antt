use Rattle.std.proofs.Common.{◌≡◌, ℕ, ◌+◌, ◌-◌, ◌%◌, ◌^◌, ◌<◌, ◌≤◌, ◌∷◌, [], List, Option, Some, None, MatchOption, length, ap, ap₂, subst, sym, ◌∙◌, arith}
use Rattle.std.specs.Iterator.{Count, IsFinite, MakesProgress, size}
use Rattle.radix_keys.specs.Networks.{Net, IsBase}
use Rattle.address_ranges.specs.Ranges.{net_by_number, block_net, networks_in, networks_left}
use Rattle.address_ranges.proofs.BlockLemmas.{IsLargest}
use Rattle.address_ranges.proofs.CutLemmas.{first_of_all, off}
use Rattle.address_ranges.proofs.networks.RangeNetworksIterator.next.Goals.{then-end-to, else-end-to}
use Rattle.address_ranges.proofs.networks.RangeNetworksIterator.next.Goals as goal

pub free_bits-free-requires : goal.free_bits-free-requires
free_bits-free-requires g c =
    let order = c.self.invariant (c.in_ok-first.first, c.in_ok-first.last) c.in_ok-first.was in
    omega (arith, order, c.to_number-from.ensures.value, c.to_number-to.ensures.value)

-- the first of the networks, and what comes behind it
front : (g : _) (c : goal.After-BITS g) → (c.free_bits-free.result ≤ g.A.Address.BITS)
    × (networks_in g.A.Address.BITS c.to_number-from.result c.to_number-to.result g.A.Address.BITS 0
    ≡ block_net g.A.Address.BITS c.free_bits-free.result c.to_number-from.result
    ∷ networks_in g.A.Address.BITS (c.to_number-from.result + 2 ^ c.free_bits-free.result) c.to_number-to.result g.A.Address.BITS 0)
front g c =
    let order = c.self.invariant (c.in_ok-first.first, c.in_ok-first.last) c.in_ok-first.was in
    let is : IsLargest c.to_number-from.result c.to_number-to.result c.free_bits-free.result =
    record { begins = c.free_bits-free.ensures.begins; within = c.free_bits-free.ensures.within; largest = c.free_bits-free.ensures.largest } in
    first_of_all g.A.Address.BITS c.to_number-from.result c.to_number-to.result c.free_bits-free.result is
    (omega (arith, order, c.to_number-from.ensures.value, c.to_number-to.ensures.value)) c.to_number-to.ensures.fits

pub overflow_sub-BITS : goal.overflow_sub-BITS
overflow_sub-BITS g c = omega (arith, (front g c).0, c.BITS.ensures)

-- what is left after a network that isn't the last one, or is
some_left : {A : Type 0} (w : ℕ) (number : A → ℕ) (o : Option (A × A)) (first last : A) (m n : ℕ) → o ≡ Some (first, last)
    → number first ≡ m → number last ≡ n → networks_left w number o ≡ networks_in w m n w 0
some_left w number o first last m n is p q = ap (networks_left w number) is ∙ ap₂ (λ x y. networks_in w x y w 0) p q

none_left : {A : Type 0} (w : ℕ) (number : A → ℕ) (o : Option (A × A)) (m n : ℕ) → o ≡ None
    → n < m → networks_left w number o ≡ networks_in w m n w 0
none_left w number o m n is less = ap (networks_left w number) is ∙ sym (off w m n w 0 (λ a p q r s. omega (arith, less, r, s)))

-- what is left is what comes behind the first network
left : (g : _) (c : goal.After-new g) → networks_left g.A.Address.BITS g.A.Address.number c.if-end-to.self
    ≡ networks_in g.A.Address.BITS (c.to_number-from.result + 2 ^ c.free_bits-free.result) c.to_number-to.result g.A.Address.BITS 0
left g c =
    let w = g.A.Address.BITS in
    let number = g.A.Address.number in
    let m = c.to_number-from.result in
    let n = c.to_number-to.result in
    let e = c.free_bits-free.result in
    elim c.if-end-to.branch [
      | then-end-to t ↦ some_left w number c.if-end-to.self t.from_number.result c.in_ok-first.last (m + 2 ^ e) n t.self-is
          (omega (arith, t.from_number.ensures, c.block_end-end.ensures)) (sym c.to_number-to.ensures.value)
      | else-end-to t ↦ none_left w number c.if-end-to.self (m + 2 ^ e) n t.self-is
          (omega (arith, t.if-end-to.false, c.block_end-end.ensures))
    ]

-- the networks are the first one and what is left
parts : (g : _) (c : goal.After-new g) → c.args.self.now
    ≡ block_net g.A.Address.BITS c.free_bits-free.result c.to_number-from.result ∷ networks_left g.A.Address.BITS g.A.Address.number c.if-end-to.self
parts g c =
    let w = g.A.Address.BITS in
    let number = g.A.Address.number in
    let m = c.to_number-from.result in
    let n = c.to_number-to.result in
    let e = c.free_bits-free.result in
    sym c.self.view_is
    ∙ some_left w number c.self.inside.rest c.in_ok-first.first c.in_ok-first.last m n c.in_ok-first.was
    (sym c.to_number-from.ensures.value) (sym c.to_number-to.ensures.value)
    ∙ (front g c.before).1 ∙ ap (λ xs. block_net w e m ∷ xs) (sym (left g c))

-- the first network is returned
given : {A : Type 0} (number : A → ℕ) (w m e bits : ℕ) (first : A) (now rest : List (Net ℕ)) (o : Option (Net A))
    → MatchOption o (¬ (IsBase w bits (number first))) (λ net. (net.base ≡ first) × (net.bits ≡ bits) × IsBase w bits (number first))
    → IsBase w bits (number first) → m ≡ number first → bits ≡ w - e → now ≡ block_net w e m ∷ rest
    → MatchOption o ((now ≡ []) × (rest ≡ [])) (λ net. now ≡ net_by_number number net ∷ rest)
given number w m e bits first now rest None made base same count is = absurd (made base)
given number w m e bits first now rest (Some net) made base same count is =
    is ∙ ap₂ (λ x y. let net : Net ℕ = record { base = x; bits = y } in net ∷ rest) (same ∙ sym (ap number made.0)) (sym (made.1 ∙ count))

-- a call goes on to a state with less left
goes : {S A : Type 0} (can : S → Type 0) (left : S → Count) (s t : S) (o : Option A) → can t → IsFinite (left t)
    → size (left t) < size (left s) → MakesProgress can left s o t
goes can left s t None ready finite less = record { on = λ _. tt; keeps = tt; rests = λ _. finite }
goes can left s t (Some x) ready finite less = record { on = λ _. (ready, finite, less); keeps = ready; rests = λ _. tt }

pub returns-clause-steps : goal.returns-clause-steps
returns-clause-steps g c =
    let w = g.A.Address.BITS in
    let number = g.A.Address.number in
    let e = c.free_bits-free.result in
    let first = c.in_ok-first.first in
    let bits = c.BITS.result - e in
    let fit : e ≤ w = omega (arith, (front g c.before).0) in
    let free : e ≡ w - bits = omega (arith, fit, c.BITS.ensures) in
    let begins : number first % 2 ^ (w - bits) ≡ 0 = subst (λ d. number first % 2 ^ d ≡ 0) free
    (subst (λ m. m % 2 ^ e ≡ 0) c.to_number-from.ensures.value c.free_bits-free.ensures.begins) in
    let base : IsBase w bits (number first) =
    (omega (arith, c.to_number-from.ensures.value, c.to_number-from.ensures.fits), omega (arith, c.BITS.ensures), begins) in
    given number w c.to_number-from.result e bits first c.args.self.now (networks_left w number c.if-end-to.self) c.new.result c.new.ensures base
    c.to_number-from.ensures.value (omega (arith, c.BITS.ensures)) (parts g c)

pub returns-clause-goes : goal.returns-clause-goes
returns-clause-goes g c =
    goes _ _ _ _ c.new.result tt tt (omega (arith, ap length (parts g c)))
