-- What the mark of a terminal's class says.
use Rattle.std.proofs.Common.{◌≡◌, ℕ, Bool, true, false, List, get_or, Some, sym, ap, subst, ◌∙◌, arith}
use Rattle.std.proofs.lemmas.Option.{slice_get_within, slice_get-get_or}
use Rattle.vlsi_base.specs.declared.name.Terminal.{Terminal}
use Rattle.net_core.specs.Places.{Stands}
use Rattle.net_core.specs.Netlist.{Netlist, IsNetlist, terminals, HasClass}
use Rattle.net_core.proofs.Rings.{at_place, class_below}
use Rattle.lvx_compare.specs.Compared.{HasOtherMembers}
use Rattle.lvx_compare.specs.Stages.{KeepsMembers, AreMarks, mark_of, mark_at}

mark_read : (n other : Netlist) (marks : List Bool) → IsNetlist n → AreMarks n other marks → (k : ℕ) (t : Terminal) → Stands (terminals n) k t
    → (c : ℕ) × HasClass n t c × Stands marks c (mark_at marks n.classes k)
mark_read n other marks is are k t s =
    let l = slice_get_within (terminals n) k t s in
    let many = is.each in
    let c = at_place n.classes k (omega (arith, l, many)) in
    let h : HasClass n t c.0 = (k, s, c.1) in
    let below = class_below n is t c.0 h in
    let count = are.many in
    let e : mark_at marks n.classes k ≡ get_or marks c.0 false = ap (mark_of marks) c.1 in
    (c.0, h, slice_get-get_or marks c.0 false (omega (arith, below, count)) ∙ ap Some (sym e))

pub kept_at : (n other : Netlist) (marks : List Bool) → IsNetlist n → AreMarks n other marks → (k : ℕ) (t : Terminal) → Stands (terminals n) k t → mark_at marks n.classes k ≡ true → KeepsMembers n other t
kept_at n other marks is are k t s e = let r = mark_read n other marks is are k t s in are.kept t r.0 r.1 (subst (λ (b : Bool). Stands marks r.0 b) e r.2)

pub parted_at : (n other : Netlist) (marks : List Bool) → IsNetlist n → AreMarks n other marks → (k : ℕ) (t : Terminal) → Stands (terminals n) k t → mark_at marks n.classes k ≡ false → HasOtherMembers n other t
parted_at n other marks is are k t s e = let r = mark_read n other marks is are k t s in are.parted t r.0 r.1 (subst (λ (b : Bool). Stands marks r.0 b) e r.2)
