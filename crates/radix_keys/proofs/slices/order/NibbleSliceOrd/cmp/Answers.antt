use Rattle.std.proofs.Common.{◌≡◌, ◌≢◌, inl, inr, ◌<◌, ◌≤◌, length, get_or, arith, ap, ◌∙◌}
use Rattle.std.specs.Ordering.{nat_cmp}
use Rattle.radix_keys.proofs.NibbleLemmas.Comparing.{compare_apart, compare_ended}
use Rattle.radix_keys.proofs.slices.order.NibbleSliceOrd.cmp.Goals as goal

pub returns-then-same-len : goal.returns-then-same-len
returns-then-same-len c =
    let xs = c.args.self.now in
    let ys = c.args.other.now in
    let same = c.agreement-same.result in
    let told : c.cmp.result ≡ nat_cmp c.len-then-same-len.result c.len-then-same-len-2.result = c.cmp.ensures in
    let ended : same ≡ length xs = omega (arith, c.if-same-len.true, c.len.ensures) in
    let inside : same ≤ length ys = omega (arith, c.agreement-same.ensures.inside) in
    told
    ∙ ap (λ a. nat_cmp a c.len-then-same-len-2.result) c.len-then-same-len.ensures
    ∙ ap (λ b. nat_cmp (length xs) b) c.len-then-same-len-2.ensures
    ∙ compare_ended same xs ys c.agreement-same.ensures.same (inl ended) c.agreement-same.ensures.within inside

pub returns-then-same-len-2 : goal.returns-then-same-len-2
returns-then-same-len-2 c =
    let xs = c.args.self.now in
    let ys = c.args.other.now in
    let same = c.agreement-same.result in
    let told : c.cmp-then-same-len-2.result ≡ nat_cmp c.len-then-same-len-2-2.result c.len-then-same-len-2-3.result = c.cmp-then-same-len-2.ensures in
    let ended : same ≡ length ys = omega (arith, c.if-same-len-2.true, c.len-2.ensures) in
    let inside : same ≤ length ys = omega (arith, c.agreement-same.ensures.inside) in
    told
    ∙ ap (λ a. nat_cmp a c.len-then-same-len-2-3.result) c.len-then-same-len-2-2.ensures
    ∙ ap (λ b. nat_cmp (length xs) b) c.len-then-same-len-2-3.ensures
    ∙ compare_ended same xs ys c.agreement-same.ensures.same (inr ended) c.agreement-same.ensures.within inside

pub returns : goal.returns
returns c =
    let xs = c.args.self.now in
    let ys = c.args.other.now in
    let same = c.agreement-same.result in
    let told : c.cmp-2.result ≡ nat_cmp c.get.result c.get-2.result = c.cmp-2.ensures in
    let here : same < length xs = omega (arith, c.agreement-same.ensures.within, c.if-same-len.false, c.len.ensures) in
    let there : same < length ys = omega (arith, c.agreement-same.ensures.inside, c.if-same-len-2.false, c.len-2.ensures) in
    let apart : get_or xs same 0 ≢ get_or ys same 0 = c.agreement-same.ensures.apart here there in
    told
    ∙ ap (λ a. nat_cmp a c.get-2.result) c.get.ensures.value
    ∙ ap (λ b. nat_cmp (get_or xs same 0) b) c.get-2.ensures.value
    ∙ compare_apart same xs ys here there c.agreement-same.ensures.same apart
