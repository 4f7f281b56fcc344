use Rattle.std.proofs.Common.{◌≡◌, ◌+◌, ◌*◌, ◌/◌, ◌^◌, ◌<◌, true, get_or, refl, sym, ap, subst, ◌∙◌, arith}
use Rattle.std.proofs.lemmas.List.{get_or_past}
use Rattle.encoded_keys.specs.Heads.{bound_of}
use Rattle.encoded_keys.proofs.CodeLemmas.Heads.{bound_of_long, filled_head, head-lt, head-more}
use Rattle.encoded_keys.proofs.heads.head_of.Goals as goal

pub overflow_add-result-then-is_through : goal.overflow_add-result-then-is_through
overflow_add-result-then-is_through c =
    let list = c.args.list.now in
    let filled = filled_head list c.padded_head-head.ensures.nibbles (omega (arith, c.if-len-gt14.false, c.len-len.ensures)) in
    let most : 16 ^ 15 ≡ 1152921504606846976 = refl in
    let lt = head-lt 15 15 list (omega arith) (λ k _. c.padded_head-head.ensures.nibbles k) in
    omega (arith, filled, most, lt, c.padded_head-head.ensures.head, ap (λ n. 18446744073709551615 / 2 ^ (4 * n)) c.len-len.ensures)

pub overflow_add-result-else-is_through : goal.overflow_add-result-else-is_through
overflow_add-result-else-is_through c =
    let list = c.args.list.now in
    let most : 16 ^ 15 ≡ 1152921504606846976 = refl in
    let lt = head-lt 0 15 list (omega arith) (λ k _. c.padded_head-head.ensures.nibbles k) in
    let last = get_or_past list 15 0 (omega (arith, c.len-len.ensures, c.if-len-gt14.false)) in
    omega (arith, most, lt, c.padded_head-head.ensures.head, head-more 0 15 list, last, c.if-len-gt14.false)

pub returns-then-len-gt14-clause-head : goal.returns-then-len-gt14-clause-head
returns-then-len-gt14-clause-head c =
    let list = c.args.list.now in
    let head = c.padded_head-head.ensures.head in
    let last : get_or list 15 0 < 16 = c.padded_head-head.ensures.nibbles 15 in
    omega (arith, head, head-more 0 15 list, last) ∙ bound_of_long c.args.is_through list (omega (arith, c.len-len.ensures, c.if-len-gt14.true))

pub returns-then-is_through-clause-head : goal.returns-then-is_through-clause-head
returns-then-is_through-clause-head c =
    let list = c.args.list.now in
    let filled = filled_head list c.padded_head-head.ensures.nibbles (omega (arith, c.if-len-gt14.false, c.len-len.ensures)) in
    let same : c.padded_head-head.result + 18446744073709551615 / 2 ^ (4 * c.len-len.result) ≡ bound_of true list =
    omega (arith, filled, c.padded_head-head.ensures.head, ap (λ n. 18446744073709551615 / 2 ^ (4 * n)) c.len-len.ensures) in
    subst (λ t. c.padded_head-head.result + 18446744073709551615 / 2 ^ (4 * c.len-len.result) ≡ bound_of t list) (sym c.if-is_through.true) same

pub returns-else-is_through-clause-head : goal.returns-else-is_through-clause-head
returns-else-is_through-clause-head c =
    let list = c.args.list.now in
    let last = get_or_past list 15 0 (omega (arith, c.len-len.ensures, c.if-len-gt14.false)) in
    subst (λ t. c.padded_head-head.result + c.len-len.result ≡ bound_of t list) (sym c.if-is_through.false)
    (omega (arith, c.padded_head-head.ensures.head, head-more 0 15 list, last, c.len-len.ensures, c.if-len-gt14.false))
