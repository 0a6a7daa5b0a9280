use Rattle.std.proofs.Common.{◌≡◌, ◌∷◌, ◌++◌, [], None, Some, get_or, refl}
use Rattle.fsm_merge.proofs.Naming.{names_step, got_at, got_past}
use Rattle.std.proofs.Common.{append-nil as append_nil}
use Rattle.fsm_merge.proofs.machine.names_at.Goals as goal
use Rattle.fsm_merge.proofs.machine.names_at.Goals.{in-Some+in_ok-copy-in-Some+in_ok-push-in-Some, in-None}

pub loop-place-preserved : goal.loop-place-preserved
loop-place-preserved c =
    let names = c.args.names.now in
    let places = c.args.places.now in
    let i = c.loop-place.place-index in
    elim c.match-get.branch [
      | in-Some+in_ok-copy-in-Some+in_ok-push-in-Some w ↦
          (let made : c.match-get.made.items ≡ c.loop-place.made.items ++ w.in-Some.name.now ∷ [] =
          rw (w.made-is, w.in_ok-push-in-Some.ensures.items, w.in_ok-copy-in-Some.ensures) refl in
          names_step names places i (get_or places i 0) c.loop-place.made.items c.match-get.made.items _ (Some w.in-Some.name.now) c.loop-place-test.true refl
          (got_at names (get_or places i 0) w.in-Some.name.now w.in-Some.ensures.lookup.3.0 w.in-Some.ensures.lookup.1) made c.loop-place.invariant)
      | in-None w ↦
          (let made : c.match-get.made.items ≡ c.loop-place.made.items ++ [] = rw (w.made-is, append_nil c.loop-place.made.items) refl in
          names_step names places i (get_or places i 0) c.loop-place.made.items c.match-get.made.items _ None c.loop-place-test.true refl
          (got_past names (get_or places i 0) w.in-None.ensures.lookup.3) made c.loop-place.invariant)
    ]
