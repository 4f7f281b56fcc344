use Rattle.std.proofs.Common.{◌++◌, ◌∙◌, ap}
use Rattle.radix_trie.specs.Nibbles.{nibbles}
use Rattle.radix_trie.specs.Views.{pairs_below}
use Rattle.radix_trie.specs.Walks.{deref_pair, deref_pairs}
use Rattle.trie_examples.proofs.PageLemmas.{last_mapped, none_mapped, page_after, page_after_none}
use Rattle.trie_examples.proofs.pages.two_pages.Goals as goal
use Rattle.trie_examples.proofs.pages.two_pages.Goals.{in-None, in-Some+in_ok-second-in-Some}

pub returns : goal.returns
returns g c =
    let items = c.in_ok-first.first.items in
    let page = deref_pairs items in
    let all = pairs_below c.args.words.now (nibbles c.args.typed.now) in
    let first = c.in_ok-first.ensures.pairs in
    elim c.match-last.branch [
      | in-Some+in_ok-second-in-Some w ↦
          let last = last_mapped deref_pair items c.deref.result.now w.in-Some.field-0.now c.deref.ensures.value w.in-Some.ensures.value in
          ap (λ v. page ++ deref_pairs v.items) w.second-is
          ∙ ap (λ l. page ++ l) w.in_ok-second-in-Some.ensures.pairs
          ∙ page_after c.args.most all page _ (deref_pair w.in-Some.field-0.now) first last (λ n at. c.pages_follow_one_another.ensures _ n _ at)
      | in-None w ↦
          let none = none_mapped deref_pair items c.deref.result.now c.deref.ensures.value w.in-None.ensures.value in
          ap (λ v. page ++ deref_pairs v.items) w.second-is
          ∙ ap (λ l. page ++ deref_pairs l) w.new-second.ensures.items
          ∙ page_after_none c.args.most all page first none
    ]
