use Rattle.nero_maze.proofs.Sounds.{unlogged, connected, stuck, sound_same}
use Rattle.nero_maze.proofs.router.Router.connect.Goals as goal
use Rattle.nero_maze.proofs.router.Router.connect.Goals.{in-Some, in-None}

pub join-requires-clause-new : goal.join-requires-clause-new
join-requires-clause-new c =
    let within = (let h = c.requires.within in rw (← c.self.view_is) at h) in
    let new = (let h = c.requires.new in rw (← c.self.view_is) at h) in
    rw c.number_of-at.ensures.number (unlogged c.self.inside.board c.args.net c.args.target c.self.invariant within new)

pub invariant_of-self : goal.invariant_of-self
invariant_of-self c =
    let begun = (let h = c.requires.begun in rw (← c.self.view_is) at h) in
    let within = (let h = c.requires.within in rw (← c.self.view_is) at h) in
    let new = (let h = c.requires.new in rw (← c.self.view_is) at h) in
    elim c.match-join.branch [
      | in-Some w ↦ (connected c.self.inside.board c.join.new.board c.args.net w.in-Some.cost c.args.target c.self.invariant begun within new c.join.ensures.idle c.join.ensures.reserved
          (rw c.number_of-at.ensures.number at w.in-Some.ensures.joins) c.join.ensures.holds).0
      | in-None w ↦ (sound_same c.self.inside.board c.join.new.board c.self.invariant c.join.ensures.idle c.join.ensures.reserved w.in-None.ensures.stuck.room w.in-None.ensures.stuck.log c.join.ensures.holds).0
    ]

pub returns-clause-path : goal.returns-clause-path
returns-clause-path c =
    let begun = (let h = c.requires.begun in rw (← c.self.view_is) at h) in
    let within = (let h = c.requires.within in rw (← c.self.view_is) at h) in
    let new = (let h = c.requires.new in rw (← c.self.view_is) at h) in
    elim c.match-join.branch [
      | in-Some w ↦ rw (w.result-is, ← c.self.view_is) (connected c.self.inside.board c.join.new.board c.args.net w.in-Some.cost c.args.target c.self.invariant begun within new c.join.ensures.idle c.join.ensures.reserved
          (rw c.number_of-at.ensures.number at w.in-Some.ensures.joins) c.join.ensures.holds).1
      | in-None w ↦ rw w.result-is tt
    ]

pub returns-clause-none : goal.returns-clause-none
returns-clause-none c =
    let within = (let h = c.requires.within in rw (← c.self.view_is) at h) in
    elim c.match-join.branch [
      | in-Some w ↦ rw w.result-is tt
      | in-None w ↦ rw (w.result-is, ← c.self.view_is) (stuck c.self.inside.board c.join.new.board c.args.net c.args.target c.self.invariant within
          (rw c.number_of-at.ensures.number at w.in-None.ensures.stuck))
    ]
