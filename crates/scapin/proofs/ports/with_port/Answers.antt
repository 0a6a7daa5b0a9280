use Rattle.std.proofs.Common.{◌∷◌, [], filter, append_assoc}
use Rattle.vlsi_base.specs.Names.{scalar, comes_before}
use Rattle.scapin.proofs.ports.with_port.Goals as goal

pub returns : goal.returns
returns c =
    rw (c.in_ok-push_behind.ensures, c.in_ok-push.ensures.items, c.in_ok-push_before.ensures, c.new-made.ensures.items, c.in_ok-copy.ensures, c.scalar-name.ensures, c.in_ok-from_bytes.ensures)
    (append_assoc (filter (λ p. comes_before p.name (scalar c.args.text.now)) c.args.ports.now) (record { name = scalar c.args.text.now; dir = c.args.dir } ∷ [])
    (filter (λ p. comes_before (scalar c.args.text.now) p.name) c.args.ports.now))
