-- Rips get the names of terminals.
use Rattle.std.proofs.Common.{◌≡◌, ℕ, zero, suc, ◌<◌, ◌+◌, List, [], ◌∷◌, ◌++◌, length, take, sym, subst, arith}
use Rattle.std.specs.Prelude.{slice_index_or}
use Rattle.vlsi_base.specs.Member.{In, here, there}
use Rattle.std.proofs.lemmas.List.{take_more}
use Rattle.vlsi_base.specs.declared.name.Terminal.{Terminal}
use Rattle.maze_rips.specs.declared.rip.PointRip.{PointRip}
use Rattle.nero_rip.specs.declared.rip.Rip.{Rip}
use Rattle.nero_rip.specs.Rips.{IsNamed, AreNamed}

-- the rip at a place
abbrev pub rip_at : List PointRip → ℕ → PointRip
rip_at rips i = slice_index_or rips i (record { net = 0; point = 0; torn = 0 })

pub rip_among : (rips : List PointRip) (i : ℕ) → i < length rips → In (rip_at rips i) rips
rip_among [] i low = absurd (omega (arith, low))
rip_among (r ∷ rips) zero low = here
rip_among (r ∷ rips) (suc i) low = there (rip_among rips i (omega (arith, low)))

pub named_more : (terminals : ℕ → List Terminal) (rips : List PointRip) (named : List Rip) (r : PointRip) (x : Rip) → AreNamed terminals rips named → IsNamed terminals r x
    → AreNamed terminals (rips ++ r ∷ []) (named ++ x ∷ [])
named_more terminals [] [] r x h is = (is, tt)
named_more terminals [] (y ∷ named) r x h is = absurd h
named_more terminals (s ∷ rips) [] r x h is = absurd h
named_more terminals (s ∷ rips) (y ∷ named) r x h is = (h.0, named_more terminals rips named r x h.1 is)

pub named_many : (terminals : ℕ → List Terminal) (rips : List PointRip) (named : List Rip) → AreNamed terminals rips named → length named ≡ length rips
named_many terminals [] [] h = omega arith
named_many terminals [] (y ∷ named) h = absurd h
named_many terminals (s ∷ rips) [] h = absurd h
named_many terminals (s ∷ rips) (y ∷ named) h = (let r = named_many terminals rips named h.1 in omega arith)

pub named_on : (terminals : ℕ → List Terminal) (rips : List PointRip) (i : ℕ) (d : PointRip) (named after : List Rip) (x : Rip) → i < length rips → AreNamed terminals (take i rips) named
    → IsNamed terminals (slice_index_or rips i d) x → after ≡ named ++ x ∷ [] → AreNamed terminals (take (i + 1) rips) after
named_on terminals rips i d named after x lt h is e =
    subst (λ (ys : List Rip). AreNamed terminals (take (i + 1) rips) ys) (sym e)
    (subst (λ (rs : List PointRip). AreNamed terminals rs (named ++ x ∷ [])) (sym (take_more rips i d lt)) (named_more terminals (take i rips) named (slice_index_or rips i d) x h is))
