-- What is written of the rows is opened as the routes.
use Rattle.std.proofs.Common.{◌≡◌, map as each, subst, sym}
use Rattle.std.specs.List.{All, AllZip}
use Rattle.flat_routes.specs.Images.{numbered_row}
use Rattle.flat_routes.specs.Written.{IsImageOf}
use Rattle.route_tool.specs.RouteImages.{AreOpened, AreTooLong, AreTooMany, IsLineHop, IsWrittenRow}
use Rattle.route_tool.specs.declared.images.WriteFault.TheVariants.{Full}
use Rattle.route_tool.proofs.RouteImageLemmas.{err_weaker, ok_weaker, opened_again, too_long}
use Rattle.route_tool.proofs.images.writing.image_of_routes.Goals as goal

pub returns-clause-opened : goal.returns-clause-opened
returns-clause-opened g c =
    let number = g.A.Address.number in
    let wide = g.A.ImageFamily.WIDE in
    let rows = c.deref.result.now in
    let own = c.deref-2.result.now in
    let zip =
    subst (λ o. AllZip (IsWrittenRow o) c.args.rest rows) (sym c.deref-2.ensures.value) (subst (AllZip (IsWrittenRow c.in_ok-rows.own.items) c.args.rest) (sym c.deref.ensures.value) c.in_ok-rows.ensures.rows) in
    ok_weaker c.image_of.result (λ image. IsImageOf wide (each (numbered_row number) rows) own image.items)
    (λ image. All (λ r. IsLineHop r.1) c.args.rest → AreOpened number wide image.items c.args.rest)
    (λ image made lines. opened_again number wide image.items own c.args.rest rows made zip lines) c.image_of.ensures.written

pub returns-clause-full : goal.returns-clause-full
returns-clause-full g c =
    let wide = g.A.ImageFamily.WIDE in
    let rows = c.deref.result.now in
    let zip = subst (AllZip (IsWrittenRow c.in_ok-rows.own.items) c.args.rest) (sym c.deref.ensures.value) c.in_ok-rows.ensures.rows in
    err_weaker c.image_of.result (λ e. e ≡ Full → AreTooMany wide rows) (λ e. e ≡ Full → AreTooLong wide c.args.rest)
    (λ e many is. too_long wide c.in_ok-rows.own.items c.args.rest rows c.in_ok-rows.ensures.size zip (many is)) c.image_of.ensures.full
