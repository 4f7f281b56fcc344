use Rattle.std.proofs.Common.{◌∙◌, ◌++◌, ap}
use Rattle.std.proofs.lemmas.Fmt.{contents_after_writes}
use Rattle.radix_keys.specs.Networks.{net_text}
use Rattle.route_tool.proofs.written.text_of.Goals as goal

pub returns-in-Ok : goal.returns-in-Ok
returns-in-Ok g c =
    let text = net_text g.A.Address.text c.args.network.now in
    contents_after_writes _ (λ s. s.bytes) (λ s bytes t is. is) _ text _ c.in-Ok.ensures.writes ∙ ap (λ bytes. bytes ++ text) c.new-text.ensures
