use Rattle.std.proofs.Common.{ltb, ◌≡◌, ◌<◌, ◌≤◌, length, take, get_or, sym, ap, subst, ◌∙◌, arith}
use Rattle.std.proofs.lemmas.List.{take_all}
use Rattle.encoded_keys.specs.Codes.{code_at, IsSide}
use Rattle.encoded_keys.proofs.CodeLemmas.Sides.{begun, equal_side, goes_on, greater_side, less_side, side_by_nibble, side_by_numbers, side_of_begun, side_of_prefix}
use Rattle.encoded_keys.proofs.keys.EncodedKeys.side.Goals as goal

pub returns-then-is_through-clause-side : goal.returns-then-is_through-clause-side
returns-then-is_through-clause-side c =
    let code = code_at c.args.self.now c.args.at in
    let q = c.args.sought.now.list.now in
    let t = c.args.sought.now.is_through in
    let n = c.agreement-same.result in
    let same = subst (λ p. take n p ≡ take n q) c.piece-code.ensures.code c.agreement-same.ensures.same in
    let begins = begun code q n same (omega (arith, c.len.ensures, c.if-len-same.true)) in
    less_side t q code (sym (side_of_begun t code q begins) ∙ c.if-is_through.true)

pub returns-then-same-len-clause-side : goal.returns-then-same-len-clause-side
returns-then-same-len-clause-side c =
    let code = code_at c.args.self.now c.args.at in
    let q = c.args.sought.now.list.now in
    let t = c.args.sought.now.is_through in
    let n = c.agreement-same.result in
    let is = c.piece-code.ensures.code in
    let same = subst (λ p. take n p ≡ take n q) is c.agreement-same.ensures.same in
    let all : length q ≤ n = omega (arith, c.len.ensures, c.if-len-same.true) in
    let more : n < length code = omega (arith, ap length is, c.len-then-len-same.ensures, c.if-same-len.true) in
    greater_side t q code (sym (side_of_begun t code q (begun code q n same all)) ∙ c.if-is_through.false) (λ _ s. let l = ap length s in omega (arith, l, all, more))

pub returns-then-len-same-clause-side : goal.returns-then-len-same-clause-side
returns-then-len-same-clause-side c =
    let code = code_at c.args.self.now c.args.at in
    let q = c.args.sought.now.list.now in
    let n = c.agreement-same.result in
    let is = c.piece-code.ensures.code in
    let same = subst (λ p. take n p ≡ take n q) is c.agreement-same.ensures.same in
    let all : length q ≤ n = omega (arith, c.len.ensures, c.if-len-same.true) in
    let none : length code ≤ n = omega (arith, ap length is, c.len-then-len-same.ensures, c.if-same-len.false) in
    equal_side c.args.sought.now.is_through q code c.if-is_through.false (sym (take_all n code none) ∙ same ∙ take_all n q all)

pub returns-then-len-same-2-clause-side : goal.returns-then-len-same-2-clause-side
returns-then-len-same-2-clause-side c =
    let code = code_at c.args.self.now c.args.at in
    let q = c.args.sought.now.list.now in
    let n = c.agreement-same.result in
    let is = c.piece-code.ensures.code in
    let same = subst (λ p. take n p ≡ take n q) is c.agreement-same.ensures.same in
    let all : length code ≤ n = omega (arith, ap length is, c.len-2.ensures, c.if-len-same-2.true) in
    less_side c.args.sought.now.is_through q code (sym (side_of_prefix c.args.sought.now.is_through code q (goes_on code q n same all (omega (arith, c.len.ensures, c.if-len-same.false)))))

pub returns-clause-side : goal.returns-clause-side
returns-clause-side c =
    let code = code_at c.args.self.now c.args.at in
    let q = c.args.sought.now.list.now in
    let t = c.args.sought.now.is_through in
    let n = c.agreement-same.result in
    let is = c.piece-code.ensures.code in
    let same = subst (λ p. take n p ≡ take n q) is c.agreement-same.ensures.same in
    let here : n < length c.piece-code.result = omega (arith, c.len-2.ensures, c.if-len-same-2.false) in
    let there : n < length q = omega (arith, c.len.ensures, c.if-len-same.false) in
    let value = c.get.ensures.value ∙ ap (λ p. get_or p n 0) is in
    let differ : get_or code n 0 ≡ get_or q n 0 → ⊥ = λ e. c.agreement-same.ensures.apart here there (ap (λ p. get_or p n 0) is ∙ e) in
    subst (IsSide t q code) (sym c.cmp.ensures)
    (side_by_numbers t q code c.get.result c.get-2.result
    (ap (λ a. ltb a c.get-2.result) value ∙ ap (λ b. ltb (get_or code n 0) b) c.get-2.ensures.value ∙ side_by_nibble t code q n (subst (λ p. n < length p) is here) there same differ)
    (λ e. differ (sym value ∙ e ∙ c.get-2.ensures.value)) (λ _ s. value ∙ ap (λ p. get_or p n 0) s ∙ sym c.get-2.ensures.value))
