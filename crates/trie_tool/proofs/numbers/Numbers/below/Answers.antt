use Rattle.std.proofs.Common.{◌≡◌, ◌∙◌, ap, sym, subst, length, map as each, option_map, Some, None, string_bytes}
use Rattle.std.specs.Option.{IfSome}
use Rattle.nibble_map.specs.MapQueries.{IsRawDescendant}
use Rattle.nibble_map.specs.Nibbles.{nibbles}
use Rattle.radix_trie.specs.Views.{pairs_below}
use Rattle.radix_trie.proofs.MappedLemmas.{pairs_below-mapped}
use Rattle.radix_trie.proofs.PathLemmas.Below.{len-pairs_below, pairs_below-none, pairs_below-shortest}
use Rattle.trie_tool.specs.Numbers.{text}
use Rattle.trie_tool.specs.Request.{Numbers}
use Rattle.trie_tool.proofs.numbers.Numbers.below.Goals as goal

pub invariant_of-result : goal.invariant_of-result
invariant_of-result c =
    record { counted = c.len-count.ensures ∙ len-pairs_below c.in-Some.view.map c.in-Some.view.path ∙ ap length (sym c.cursor-walk.ensures.walk) }

pub returns-in-Some-clause-rows : goal.returns-in-Some-clause-rows
returns-in-Some-clause-rows c =
    let m = c.self.inside.trie in
    let e = nibbles c.args.key.now in
    let q = c.in-Some.view.path in
    let same : c.in-Some.view.map ≡ m = subst (λ o. IfSome o (λ v. v.map ≡ m)) c.in-Some.is c.in_ok-view.ensures.same_map in
    let nearest : IsRawDescendant m e (Some q) = subst (λ o. IsRawDescendant m e (option_map (λ v. v.path) o)) c.in-Some.is c.in_ok-view.ensures.nearest in
    ap (each text) (c.cursor-walk.ensures.walk ∙ ap (λ n. pairs_below n q) same ∙ pairs_below-shortest m e q nearest)
    ∙ sym (pairs_below-mapped string_bytes m e) ∙ ap (λ (n : Numbers). pairs_below n e) c.self.view_is

pub returns-in-None-clause-none : goal.returns-in-None-clause-none
returns-in-None-clause-none c =
    let m = c.self.inside.trie in
    let e = nibbles c.args.key.now in
    let none : IsRawDescendant m e None = subst (λ o. IsRawDescendant m e (option_map (λ v. v.path) o)) c.in-None.is c.in_ok-view.ensures.nearest in
    sym (ap (λ (n : Numbers). pairs_below n e) c.self.view_is) ∙ pairs_below-mapped string_bytes m e ∙ ap (each text) (pairs_below-none m e none)
