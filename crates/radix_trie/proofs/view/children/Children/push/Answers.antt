use Rattle.std.proofs.Common.{◌++◌, ◌∷◌, [], ap, ◌∙◌}
use Rattle.radix_trie.proofs.PathLemmas.Present.{present-push, length-present_push}
use Rattle.radix_trie.proofs.view.children.Children.push.Goals as goal

pub invariant_of-self : goal.invariant_of-self
invariant_of-self g c = length-present_push _ _ _ c.push.ensures.items c.self.invariant

pub returns : goal.returns
returns g c = present-push _ _ _ c.push.ensures.items ∙ ap (λ x. x ++ c.args.child ∷ []) c.self.view_is
