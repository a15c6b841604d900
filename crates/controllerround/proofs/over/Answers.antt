-- `controllerround::over` meets its contract: what ended is the frame and the response in the words.
use Rattle.controllerround.proofs.Heard.{frame_over}
use Rattle.controllerround.proofs.over.Goals as goal

pub returns : goal.returns
returns c =
    frame_over c.args.words.now c.load_frame-f.ensures c.load_response-response.ensures c.load_ring-ring.ensures
    c.status-status.ensures c.count.ensures c.event_of.ensures c.event_words.ensures
    c.with_flag-first.ensures c.ring_after.ensures c.save_ring.ensures
