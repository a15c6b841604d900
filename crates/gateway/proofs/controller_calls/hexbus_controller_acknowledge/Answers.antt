-- `hexbus_controller_acknowledge` meets its contract: loaded, acknowledged and saved, or refused with the words as they were.
use mathlib.Core.Path.{◌∙◌, ap, sym}
use Rattle.application.specs.Calls.{acknowledging, acknowledged, controller_acknowledged}
use Rattle.controller.specs.declared.Controller.{Controller}
use Rattle.controllerwords.specs.Controller.{loaded, saved_in}
use Rattle.gateway.proofs.Controllers.{controller-given, controller-kept}
use Rattle.gateway.proofs.controller_calls.hexbus_controller_acknowledge.Goals as goal

pub returns-in-Ok : goal.returns-in-Ok
returns-in-Ok c =
    let a = c.args in
    let e = c.acknowledge.ensures in
    let from = c.load-c.ensures in
    controller-given (controller_acknowledged (loaded a.controller.now) a.code) a.controller.now
    (sym (ap acknowledged c.in-Ok.is) ∙ e.outcome ∙ ap (λ (k : Controller). acknowledging k a.code) from)
    (c.save.ensures ∙ ap (saved_in a.controller.now) (e.state ∙ ap (λ (k : Controller). controller_acknowledged k a.code) from))

pub returns-in-Err : goal.returns-in-Err
returns-in-Err c =
    let a = c.args in
    let kept =
    controller-kept (controller_acknowledged (loaded a.controller.now) a.code) a.controller.now
    (sym (ap acknowledged c.in-Err.is) ∙ c.acknowledge.ensures.outcome ∙ ap (λ (k : Controller). acknowledging k a.code) c.load-c.ensures) in
    (c.from.ensures ∙ kept.0, kept.1)
