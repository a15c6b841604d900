-- `hexbus_controller_submit` meets its contract: loaded, submitted and saved, or refused with the words as they were.
use mathlib.Core.Path.{◌∙◌, ap, sym}
use lib.ListN.{length}
use Rattle.application.specs.Calls.{submitting, submitted, controller_submitted}
use Rattle.controllerwords.specs.Controller.{loaded, saved_in}
use Rattle.gateway.specs.Messages.{command_in}
use Rattle.gateway.proofs.Controllers.{controller-given, controller-kept}
use Rattle.gateway.proofs.controller_calls.hexbus_controller_submit.Goals as goal

pub returns-in-Ok : goal.returns-in-Ok
returns-in-Ok c =
    let a = c.args in
    let e = c.submit.ensures in
    let n = length a.«data».now in
    let m = length a.response.now in
    let k = c.command_in-k.ensures in
    let from = c.load-c.ensures in
    controller-given (controller_submitted (loaded a.controller.now) (command_in a.fields.now) n m) a.controller.now
    (sym (ap submitted c.in-Ok.is) ∙ e.outcome ∙ (λ i. submitting (from i) (k i) n m))
    (c.save.ensures ∙ ap (saved_in a.controller.now) (e.state ∙ (λ i. controller_submitted (from i) (k i) n m)))

pub returns-in-Err : goal.returns-in-Err
returns-in-Err c =
    let a = c.args in
    let n = length a.«data».now in
    let m = length a.response.now in
    let k = c.command_in-k.ensures in
    let from = c.load-c.ensures in
    let kept =
    controller-kept (controller_submitted (loaded a.controller.now) (command_in a.fields.now) n m) a.controller.now
    (sym (ap submitted c.in-Err.is) ∙ c.submit.ensures.outcome ∙ (λ i. submitting (from i) (k i) n m)) in
    (c.from.ensures ∙ kept.0, kept.1)
