use Rattle.std.proofs.Common.{ap, option_map}
use Rattle.radix_trie.specs.Walks.{bound_now}
use Rattle.radix_trie.proofs.PathLemmas.Limits.{at_list, no_list, high_after, high_before, high_on, high_open}
use Rattle.radix_trie.proofs.locus.within.upper_limit.Goals as goal

pub returns-in_default : goal.returns-in_default
returns-in_default c =
    high_open (bound_now c.args.high) c.args.fragment.now c.args.depth (no_list (bound_now c.args.high) _ c.list_of.ensures (ap (option_map (λ l. l.now)) c.in_default.is))

pub returns-in-Before : goal.returns-in-Before
returns-in-Before c =
    let at = at_list (bound_now c.args.high) _ c.in-Some.list.now c.list_of.ensures (ap (option_map (λ l. l.now)) c.in-Some.is) in
    high_before (bound_now c.args.high) at.0 c.args.fragment.now c.in-Some.list.now c.args.depth at.1 c.in-Before.ensures

pub returns-in-On : goal.returns-in-On
returns-in-On c =
    let at = at_list (bound_now c.args.high) _ c.in-Some.list.now c.list_of.ensures (ap (option_map (λ l. l.now)) c.in-Some.is) in
    high_on (bound_now c.args.high) at.0 c.args.fragment.now c.in-Some.list.now c.args.depth at.1 c.in-On.next c.in-On.ensures

pub returns-in-After : goal.returns-in-After
returns-in-After c =
    let at = at_list (bound_now c.args.high) _ c.in-Some.list.now c.list_of.ensures (ap (option_map (λ l. l.now)) c.in-Some.is) in
    high_after (bound_now c.args.high) at.0 c.args.fragment.now c.in-Some.list.now c.args.depth at.1 c.in-After.ensures
