use Rattle.std.proofs.Common.{◌≡◌, ◌∷◌, ◌++◌, [], ap, sym, subst, ◌∙◌, arith}
use Rattle.std.proofs.lemmas.Result.{IfOk-weaker}
use Rattle.nibble_map.specs.Lists.{Each}
use Rattle.nibble_map.specs.MapQueries.{AreChildren}
use Rattle.radix_nodes.specs.Nodes.{tree_of}
use Rattle.radix_trie.specs.Views.{ReadView, paths_of}
use Rattle.radix_trie.proofs.PathLemmas.Children.{node_here, node_past, only_child_found_past, no_children_found, children_found_here, short_children_here, short_child_past}
use Rattle.radix_trie.proofs.PathLemmas.ChildViews.{child_views_map}
use Rattle.radix_trie.proofs.PathLemmas.Loci.{false_is_not_true, whole_or_inside}
use Rattle.radix_trie.proofs.locus.Locus.children.Goals as goal

pub children_of-requires : goal.children_of-requires
children_of-requires g c = (
  omega arith,
  node_here g.K.TrieKey.encoding c.args.trie.now c.args.path.now c.args.self.now.found c.requires.0 c.in-Some.node c.in-Some.covered c.in-Some.is
      (c.if-covered-len.true ∙ c.len.ensures),
)

pub returns-then-covered-len-clause-children : goal.returns-then-covered-len-clause-children
returns-then-covered-len-clause-children g c =
    let children = children_found_here g.K.TrieKey.encoding c.args.trie.now c.args.path.now c.args.self.now.found c.requires.0 c.in-Some.node c.in-Some.covered c.in-Some.is
    (c.if-covered-len.true ∙ c.len.ensures) in
    (IfOk-weaker c.children_of.result _ _ (λ vs is. subst (λ vs. AreChildren c.args.trie.now c.args.path.now (paths_of vs)) (sym is) children) c.children_of.ensures.views)

pub returns-then-covered-len-clause-same_map : goal.returns-then-covered-len-clause-same_map
returns-then-covered-len-clause-same_map g c =
    let m = c.args.trie.now in
    (IfOk-weaker c.children_of.result _ _
    (λ vs is. subst (Each (λ (v : ReadView g.row.K.Denot g.row.V.Denot). v.map ≡ m)) (sym is) (child_views_map m c.args.path.now (tree_of c.in-Some.node.now).children))
    c.children_of.ensures.views)

pub returns-then-covered-len-clause-short : goal.returns-then-covered-len-clause-short
returns-then-covered-len-clause-short g c =
    (λ short. c.children_of.ensures.short (short_children_here g.K.TrieKey.encoding c.args.trie.now c.args.path.now c.args.self.now.found c.requires.0 c.in-Some.node c.in-Some.covered
    c.in-Some.is (c.if-covered-len.true ∙ c.len.ensures) short))

pub extended-requires : goal.extended-requires
extended-requires g c =
    let lt = whole_or_inside g.K.TrieKey.encoding c.args.trie.now c.args.path.now c.args.self.now.found c.requires.0 c.in-Some.node c.in-Some.covered c.in-Some.is
    (λ e. c.if-covered-len.false (e ∙ sym c.len.ensures)) in
    omega (arith, lt)

pub returns-in_err-whole-in-Some-clause-short : goal.returns-in_err-whole-in-Some-clause-short
returns-in_err-whole-in-Some-clause-short g c =
    let lt = whole_or_inside g.K.TrieKey.encoding c.args.trie.now c.args.path.now c.args.self.now.found c.requires.0 c.in-Some.node c.in-Some.covered c.in-Some.is
    (λ e. c.if-covered-len.false (e ∙ sym c.len.ensures)) in
    (λ short. absurd (false_is_not_true (c.in_err-whole-in-Some.ensures.short
    (short_child_past g.K.TrieKey.encoding c.args.trie.now c.args.path.now c.args.self.now.found c.requires.0 c.in-Some.node c.in-Some.covered c.in-Some.is lt short))))

pub new-requires : goal.new-requires
new-requires g c =
    node_past g.K.TrieKey.encoding c.args.trie.now c.args.path.now c.args.self.now.found c.requires.0 c.in-Some.node c.in-Some.covered c.in-Some.is
    c.in_ok-whole-in-Some.whole c.in_ok-whole-in-Some.ensures.made

pub returns-in_ok-whole-in-Some-clause-children : goal.returns-in_ok-whole-in-Some-clause-children
returns-in_ok-whole-in-Some-clause-children g c =
    let lt = whole_or_inside g.K.TrieKey.encoding c.args.trie.now c.args.path.now c.args.self.now.found c.requires.0 c.in-Some.node c.in-Some.covered c.in-Some.is
    (λ e. c.if-covered-len.false (e ∙ sym c.len.ensures)) in
    let children = only_child_found_past g.K.TrieKey.encoding c.args.trie.now c.args.path.now c.args.self.now.found c.requires.0 c.in-Some.node c.in-Some.covered c.in-Some.is
    lt c.new.result.path (c.new.ensures.path ∙ c.in_ok-whole-in-Some.ensures.made) in
    (subst (λ vs. AreChildren c.args.trie.now c.args.path.now (paths_of vs)) (sym (c.push.ensures ∙ ap (λ vs. vs ++ c.new.result ∷ []) c.new-children.ensures)) children)

pub returns-in-None-clause-children : goal.returns-in-None-clause-children
returns-in-None-clause-children g c =
    let children = no_children_found g.K.TrieKey.encoding c.args.trie.now c.args.path.now c.args.self.now.found c.requires.0 c.in-None.is in
    (subst (λ vs. AreChildren c.args.trie.now c.args.path.now (paths_of vs)) (sym c.new-in-None.ensures) children)
