-- What the stages of extraction are lent, and what its answers come to.
use Rattle.std.proofs.Common.{◌≡◌, ◌∷◌, ℕ, zero, suc, ◌<◌, ◌≤◌, Bool, false, List, [], length, take, replicate, Option, None, Some, All, refl, sym, subst, ◌∙◌, arith, length-append}
use Rattle.std.proofs.lemmas.List.{length-replicate}
use Rattle.vlsi_base.specs.declared.name.Name.{Name}
use Rattle.vlsi_base.specs.declared.name.Port.{Port}
use Rattle.ap_io.specs.declared.figure.Figure.{Figure}
use Rattle.sym_geom.specs.declared.item.Instance.{Instance as Placed}
use Rattle.sym_geom.specs.declared.item.Item.{Item}
use Rattle.sym_shapes.specs.Shape.{Shape, drawn}
use Rattle.sym_shapes.specs.Joined.{AreJoined}
use Rattle.cell_model.specs.Cell.{Cell}
use Rattle.cell_model.specs.Connectors.{PinsAreConnectors}
use Rattle.cell_model.specs.Library.{Library, cell_of}
use Rattle.cell_model.specs.Layout.{instances_of, placed, instance_shapes, all_instances_show, shapes}
use Rattle.cell_checks.specs.Checked.{library_of, IsChecked as HasPassed}
use Rattle.cell_checks.specs.declared.verdict.Check.TheVariants as check
use Rattle.net_core.specs.Places.{Stands}
use Rattle.net_core.specs.Netlist.{Netlist, port}
use Rattle.net_theory.proofs.Basics.{length-map}
use Rattle.cougar_extract.specs.declared.links.Link.{Link}
use Rattle.cougar_extract.specs.declared.error.ExtractError.{ExtractError}
use Rattle.cougar_extract.specs.declared.error.ExtractError.TheVariants as error
use Rattle.cougar_extract.specs.Extracted.{IsReadyFigure, AreKnown, IsExtracted}
use Rattle.cougar_extract.specs.Refused.{CanBeNumbered, NoShort, IsLeastShort, IsChainOf, IsExtractRefusal}
use Rattle.cougar_extract.specs.Stages.{is_output, gives, all_instances_give, instance_gives, IsPairFrom, AreTerminals, AreConnected, IsBuilt, IsShortRefusal}
use Rattle.cougar_extract.proofs.Extracted.{extracted}
use Rattle.cougar_extract.proofs.Shapes.{whence, shown_terminal}
use Rattle.cougar_extract.proofs.Shorted.{no_short, least_short}

-- the cells of a checked library have the connectors that they should
pub connected : (tracks : Bool) (l : Library) → HasPassed tracks l → All PinsAreConnectors l.cells
connected tracks l passed k d low = (passed.passes k d low).0 check.Connectors

-- ---- as many marks as shapes

instance_many : (o : Option Cell) (i : Placed) → length (instance_gives o) ≡ length (instance_shapes o i)
instance_many None i = refl
instance_many (Some c) i = length-map (λ (s : Shape). is_output c s.name) (drawn c.items) ∙ sym (length-map (placed c i) (drawn c.items))

all_many : (l : Library) (is : List Placed) → length (all_instances_give l is) ≡ length (all_instances_show l is)
all_many l [] = refl
all_many l (i ∷ rest) =
    let a = length-append (instance_gives (cell_of l i.model)) (all_instances_give l rest) in
    let b = length-append (instance_shapes (cell_of l i.model) i) (all_instances_show l rest) in
    let c = instance_many (cell_of l i.model) i in
    let d = all_many l rest in
    omega (arith, a, b, c, d)

pub as_many : (items : List Item) (l : Library) → length (gives items l) ≡ length (shapes items l)
as_many items l =
    let a = length-append (replicate (length (drawn items)) false) (all_instances_give l (instances_of items)) in
    let b = length-append (drawn items) (all_instances_show l (instances_of items)) in
    let c = length-replicate {A = Bool} (length (drawn items)) false in
    let d = all_many l (instances_of items) in
    omega (arith, a, b, c, d)

-- ---- what the netlist is made of

-- the connectors of a layout are terminals of it
pub terminals : (items : List Item) (l : Library) (links : List Link) → All PinsAreConnectors l.cells → AreConnected (shapes items l) (gives items l) links → AreTerminals items l links
terminals items l links ok is x h =
    let r = is.are.sound x h in
    shown_terminal items l ok r.2.shape _ x.terminal (whence items l r.0 r.2.shape r.2.stands) r.2.shows

-- ---- answers

-- without a pair of one class no ports are joined
pub apart : (f : Figure) (l : Library) (n : Netlist) → All PinsAreConnectors l.cells → IsExtracted f l n → IsPairFrom (take (length n.ports) n.classes) 0 None → NoShort f.items l
apart f l n ok is none = no_short f l n ok is none

-- and the least pair is refused
pub short_refused : (f : Figure) (l : Library) (n : Netlist) (i j : ℕ) (p q : Port) (e : ExtractError) → All PinsAreConnectors l.cells → IsExtracted f l n
    → CanBeNumbered f.items l → IsPairFrom (take (length n.ports) n.classes) 0 (Some (i, j)) → Stands n.ports i p → Stands n.ports j q
    → IsShortRefusal (shapes f.items l) p.name q.name e → IsExtractRefusal f l e
short_refused f l n i j p q error.Memory ok is few pair at_p at_q h = absurd h
short_refused f l n i j p q (error.UnknownCell model) ok is few pair at_p at_q h = absurd h
short_refused f l n i j p q (error.Limit limit) ok is few pair at_p at_q h = absurd h
short_refused f l n i j p q (error.Shorted a b chain) ok is few pair at_p at_q h =
    let least = least_short f l n ok is i j p q pair at_p at_q in (
      is.known,
      few,
      subst (λ (x : Name). IsLeastShort f.items l a x) (sym h.1) (subst (λ (x : Name). IsLeastShort f.items l x q.name) (sym h.0) least),
      subst (λ (x : Name). IsChainOf (shapes f.items l) a x chain) (sym h.1) (subst (λ (x : Name). IsChainOf (shapes f.items l) x q.name chain) (sym h.0) h.2),
    )

-- ---- the cells that a library gives

-- what holds of the library's cells holds of the slice of them
pub of_library : (cells : List Cell) (l : Library) → library_of cells ≡ l → (P : List Cell → Type 0) → P l.cells → P cells
of_library cells l same P h = subst (λ (x : Library). P x.cells) (sym same) h

-- what is known of the stages by the slice is known by the library
pub by_library : (cells : List Cell) (l : Library) → library_of cells ≡ l → (P : Library → Type 0) → P (library_of cells) → P l
by_library cells l same P h = subst P same h

-- ---- the whole

-- the netlist of connectors, as the netlist of the layout
pub whole : (f : Figure) (l : Library) (links : List Link) (n : Netlist) → IsReadyFigure f → AreKnown (instances_of f.items) l → AreConnected (shapes f.items l) (gives f.items l) links
    → IsBuilt f l links n → IsExtracted f l n
whole f l links n ready known is built = extracted f l links n ready known is built

-- the pair's ports are joined
pub pair_joined : (f : Figure) (l : Library) (n : Netlist) (i j : ℕ) (p q : Port) → All PinsAreConnectors l.cells → IsExtracted f l n
    → IsPairFrom (take (length n.ports) n.classes) 0 (Some (i, j)) → Stands n.ports i p → Stands n.ports j q → AreJoined (shapes f.items l) (port p.name) (port q.name)
pair_joined f l n i j p q ok is pair at_p at_q = (least_short f l n ok is i j p q pair at_p at_q).shorted.tied

length_take_most : (xs : List ℕ) (m : ℕ) → length (take m xs) ≤ m
length_take_most xs zero = omega arith
length_take_most [] (suc m) = omega arith
length_take_most (x ∷ xs) (suc m) = let h = length_take_most xs m in omega (arith, h)

-- both places of the pair are those of ports
pub pair_low : (n : Netlist) (i j : ℕ) → IsPairFrom (take (length n.ports) n.classes) 0 (Some (i, j)) → (i < length n.ports) × (j < length n.ports)
pair_low n i j pair =
    let most = length_take_most n.classes (length n.ports) in
    let behind = pair.behind in
    let within = pair.within in
    (omega (arith, most, behind, within), omega (arith, most, within))
