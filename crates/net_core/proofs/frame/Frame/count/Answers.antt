use Rattle.std.proofs.Common.{◌∙◌, sym, ap, length}
use Rattle.net_core.specs.Frame.{Frame, frame_terminals}
use Rattle.net_core.proofs.Frames.{terminals_count}
use Rattle.net_core.proofs.Sound.{frame_sound}
use Rattle.net_core.proofs.frame.Frame.count.Goals as goal

pub returns : goal.returns
returns c = record {
  count = c.self.invariant.counted ∙ sym (terminals_count c.self.inside.ports c.self.inside.models c.self.inside.nodes.items) ∙ ap (λ (f : Frame). length (frame_terminals f)) c.self.view_is;
  sound = frame_sound c.self.invariant c.texts.ensures.once c.args.self.now c.self.view_is;
}
