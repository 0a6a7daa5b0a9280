-- A netlist that may be drawn, once it is drawn, is a right layout.
use Rattle.std.proofs.Common.{◌≡◌, ℕ, ◌+◌, ◌-◌, ◌^◌, ◌<◌, ◌≤◌, Bool, true, false, List, length, Some, refl, sym, ◌∙◌, ap, subst, arith}
use Rattle.std.proofs.lemmas.List.{length-map}
use Rattle.vlsi_base.specs.Names.{scalar}
use Rattle.machine_core.specs.Machine.{Machine}
use Rattle.source_checks.specs.Checks.{most_ports}
use Rattle.ap_io.specs.declared.figure.Figure.{Figure}
use Rattle.ap_io.specs.Spelling.{text_of}
use Rattle.ap_io.specs.Laws.{WrittenIsReadAgain}
use Rattle.cell_model.specs.Library.{Library}
use Rattle.cell_lib.specs.Laws.{LibraryPasses, LibraryNeedsNoTracks}
use Rattle.cell_pins.specs.Table.{LibrariesHaveTables}
use Rattle.net_core.specs.Netlist.{Netlist}
use Rattle.net_meaning.specs.Netlist.{AbstractNetlist as Seen}
use Rattle.net_right.specs.View.{IsSeenAs, member_of}
use Rattle.net_right.specs.Laws.{RightIsWellFormed}
use Rattle.ocp_rows.specs.Placement.{Placement, net_count}
use Rattle.ocp_rows.specs.Length.{half_perimeter}
use Rattle.net_meaning.specs.Well.{IsWell}
use Rattle.net_meaning.specs.Agreement.{Agrees}
use Rattle.net_meaning.specs.Order.{IsInNetlistOrder}
use Rattle.flow_netlist.specs.Netlist.{IsDrivenAs}
use Rattle.ocp_place.specs.Law.{row_of, RightMayBeDrawn}
use Rattle.ocp_place.specs.Drawable.{IsDrawableIn}
use Rattle.route_draw.specs.Drawn.{IsDrawnInTracks}
use Rattle.route_draw.specs.Law.{RightDrawingsAreRight, DrawingCanBeWritten}
use Rattle.vlsi_base.specs.declared.name.Port.{Port}
use Rattle.vlsi_base.specs.Member.{In}
use Rattle.text_names.specs.Words.{IsIdentifier, CanBePorts}
use Rattle.machine_core.specs.Size.{machine_size}
use Rattle.vbe_writable.specs.Laws.{with_supplies}
use Rattle.machine_core.specs.Checked.{IsChecked}
use Rattle.cell_checks.specs.Checked.{IsChecked as HasPassed}
use Rattle.machine_core.specs.Alike.{IsAlike, AlikeRun, AlikeBothWays}
use Rattle.machine_roots.specs.Roots.{IsGreatestDcount}
use Rattle.boog_run.specs.Laws.{SourceCanBeDeclared}
use Rattle.vbe_writable.specs.Declared.{CanBeDeclared}
use Rattle.tool_drive.specs.declared.size.TheConstants.{MOST_SIZE}
use Rattle.vbe_laws.specs.FewNames.{SourceHasFewNames}
use Rattle.syf_run.specs.Syf.{style_of}
use Rattle.syf_run.specs.Laws.{EncodedCanBeDeclared}
use Rattle.flow_words.specs.declared.words.FlowCommand.{FlowCommand}
use Rattle.flow_run.specs.Origin.{Origin, equations, states, is_fsm, IsOf, IsSourceFor}
use Rattle.flow_run.specs.Report.{report_by, report_of}
use Rattle.flow_run.specs.States.{AgreesWith}
use Rattle.flow_run.specs.Lean.{IsLeanBy}
use Rattle.flow_run.specs.Route.{on_tracks}
use Rattle.flow_run.specs.RightLayout.{IsRightLayout}
use Rattle.flow_run.specs.Mapped.{IsMappedFor}
use Rattle.flow_run.specs.Drawn.{DoesAsOrigin, MayBeDrawn, IsLengthOf}
use Rattle.flow_run.specs.Flow.{AreRead}
use Rattle.net_tight.specs.Tight.{IsTight}
use Rattle.loon_fanout.specs.Nets.{HasNoBuffer}
use Rattle.loon_drive.specs.Driven.{most_sinks}
use Rattle.flow_netlist.specs.Laws.{DrivenIsDrawable, DrivenIsGood}
use Rattle.flow_run.proofs.Alike.{well_alike, agrees_alike, order_alike, inputs_alike, driven_alike}
use Rattle.flow_run.proofs.Fewer.{lean_by}
use Rattle.flow_run.proofs.States.{by_states as does_by}

-- what is read of a source can be declared, is checked, and does what it does

declared_as : SourceCanBeDeclared → EncodedCanBeDeclared → (b : Bool) (c : FlowCommand) (source : List ℕ) (o : Origin) (m : Machine) → IsOf b c source o m
    → CanBeDeclared m
declared_as texts machines false c source equations m is = texts source m is
declared_as texts machines false c source (states f k) m is = absurd is
declared_as texts machines true c source equations m is = absurd is
declared_as texts machines true c source (states f k) m is = machines source (style_of c.encoding c.seed) f k m is

pub source_declared : SourceCanBeDeclared → EncodedCanBeDeclared → (c : FlowCommand) (source : List ℕ) (o : Origin) (m : Machine)
    → IsSourceFor c source o m → CanBeDeclared m
source_declared texts machines c source o m is = declared_as texts machines (is_fsm c) c source o m is

checked_as : (b : Bool) (c : FlowCommand) (source : List ℕ) (o : Origin) (m : Machine) → IsOf b c source o m → IsChecked m
checked_as false c source equations m is = is.machine.checked
checked_as false c source (states f k) m is = absurd is
checked_as true c source equations m is = absurd is
checked_as true c source (states f k) m is = is.checked

does_as : (b : Bool) (c : FlowCommand) (source : List ℕ) (o : Origin) (m : Machine) → IsOf b c source o m → DoesAsOrigin o m
does_as b c source equations m is = tt
does_as false c source (states f k) m is = absurd is
does_as true c source (states f k) m is = is.does

-- the names of a source, and as many more as it weighs, have numbers of 32 bits
few_as : SourceHasFewNames → (b : Bool) (c : FlowCommand) (source : List ℕ) (o : Origin) (m : Machine) → IsOf b c source o m → machine_size m ≤ MOST_SIZE
    → length m.vars + length m.ports + machine_size m < 2 ^ 32 - 1
few_as law false c source equations m is small = let few = law source m is in omega (arith, few, small)
few_as law false c source (states f k) m is small = absurd is
few_as law true c source equations m is small = absurd is
few_as law true c source (states f k) m is small = let room = is.few in omega (arith, room, small)

pub few_names : SourceHasFewNames → (c : FlowCommand) (source catal : List ℕ) (cells : List (List ℕ)) (o : Origin) (m : Machine) (l : Library)
    → AreRead c source catal cells o m l → length m.vars + length m.ports + machine_size m < 2 ^ 32 - 1
few_names law c source catal cells o m l read = few_as law (is_fsm c) c source o m read.machine read.small

-- a machine that is alike one that can be declared can be declared
declared_alike : (m o : Machine) → IsAlike m o → CanBeDeclared m → CanBeDeclared o
declared_alike m o a d = record {
  name = subst IsIdentifier (sym a.name) d.name;
  ports = subst (λ (ports : List Port). CanBePorts (with_supplies ports)) (sym a.ports) d.ports;
  short_name = subst (λ (t : List ℕ). length t ≤ 64) (sym a.name) d.short_name;
  short_ports = λ p i. d.short_ports p (subst (λ (ports : List Port). In p ports) a.ports i);
  few_ports = subst (λ (ports : List Port). length ports ≤ most_ports) (sym a.ports) d.few_ports;
}

-- what is read and mapped may be drawn
pub may_be_drawn : LibraryPasses → LibraryNeedsNoTracks → SourceCanBeDeclared → EncodedCanBeDeclared → DrivenIsDrawable
    → (c : FlowCommand) (source list : List ℕ) (cells : List (List ℕ)) (o : Origin) (m : Machine) (l : Library) (k : Netlist) (delay nodes : ℕ)
    → AreRead c source list cells o m l → IsMappedFor l m c.nodes c.fanout k delay nodes → MayBeDrawn c.tracks l o m c.fanout k delay
may_be_drawn passes plain texts machines drawable c source list cells o m l k delay nodes read h =
    let library = plain c.tracks list cells l read.library in
    let declared = declared_alike m h.o h.made.optimised.alike (source_declared texts machines c source o m read.machine) in
    let given = read.small in
    let made = h.made.optimised.small.size in
    let small : machine_size h.o ≤ MOST_SIZE = omega (arith, given, made) in
    record {
      origin = does_as (is_fsm c) c source o m read.machine;
      o = h.o;
      optimised = h.made.optimised;
      netlist = h.netlist;
      checked = checked_as (is_fsm c) c source o m read.machine;
      ordered = h.ordered;
      passed = passes c.tracks list cells l read.library;
      small = read.small;
      soon = drawable list cells l h.o c.fanout k delay library h.ordered declared small h.netlist;
    }

pub drawable : RightMayBeDrawn → LibrariesHaveTables → (tracks : Bool) (l : Library) (o : Origin) (m : Machine) (fanout : ℕ) (n : Netlist) (delay : ℕ)
    → HasPassed false l → MayBeDrawn tracks l o m fanout n delay → IsDrawableIn l n
drawable may tables tracks l o m fanout n delay passed h =
    let t = tables l passed in
    may l n h.o false t.table passed t.listed t.sound h.netlist.sound h.ordered h.netlist.right h.soon.pins

-- ---- what every layout says of its netlist

-- the netlist in memory, as it is seen, is right for the machine
pub record IsRightFor (l : Library) (o : Origin) (m : Machine) (fanout : ℕ) (n : Netlist) (delay : ℕ) (k : Seen) : Type 0 where
  pub seen : IsSeenAs n k
  pub named : n.name ≡ m.name
  pub well : IsWell k l m
  pub agrees : Agrees k l m
  pub by_states : AgreesWith o k l m
  pub many_buffers : ℕ
  pub order : IsInNetlistOrder k l m many_buffers
  pub lean : IsLeanBy k l m fanout
  pub tight : HasNoBuffer k → IsTight k l
  pub driven : IsDrivenAs k l m delay

pub right_for : RightIsWellFormed → AlikeRun → AlikeBothWays → DrivenIsGood → (tracks : Bool) (l : Library) (o : Origin) (m : Machine) (fanout : ℕ) (n : Netlist)
    (delay : ℕ) → HasPassed false l → (h : MayBeDrawn tracks l o m fanout n delay) → IsRightFor l o m fanout n delay h.netlist.right.sourced.netlist
right_for well runs back good tracks l o m fanout n delay passed h =
    let right = h.netlist.right in
    let k = right.sourced.netlist in
    let a = h.optimised.alike in
    let both = well n l h.o h.ordered right in
    let is_well = well_alike k l m h.o a both.0 in
    let agrees = agrees_alike k l m h.o a runs back h.checked.ordered h.ordered.ordered both.1 in
    let is_good = good l h.o fanout n delay k passed h.ordered h.netlist right.seen in
    let order = is_good.order in
    record {
      seen = right.seen;
      named = right.name ∙ a.name;
      well = is_well;
      agrees = agrees;
      by_states = does_by o k l m is_well h.checked.ordered agrees h.origin;
      many_buffers = order.0;
      order = order_alike k l m h.o a order.0 order.1;
      lean = lean_by k l m h.o fanout h.optimised is_good.lean (inputs_alike k l m h.o a (most_sinks fanout) is_good.inputs) is_good.buffers;
      tight = is_good.tight;
      driven = driven_alike k l m h.o a delay is_good.driven;
    }

-- the numbers of a netlist in memory are those of the netlist that it is seen as
pub report_same : (o : Origin) (m : Machine) (nodes delay : ℕ) (l : Library) (n : Netlist) (k : Seen) (p : Placement) (long : ℕ) → IsSeenAs n k
    → long ≡ half_perimeter k l p → report_by o m nodes (length n.instances) (n.count - 2) delay long 0 ≡ report_of o m nodes delay k l p 0
report_same o m nodes delay l n k p long seen measured =
    let cells : length k.instances ≡ length n.instances = ap (λ (x : Seen). length x.instances) seen.is ∙ length-map n.instances member_of in
    let nets : net_count k ≡ n.count - 2 = ap (λ (x : Seen). net_count x) seen.is in
    ap (λ (a : ℕ). report_by o m nodes a (n.count - 2) delay long 0) (sym cells)
    ∙ ap (λ (a : ℕ). report_by o m nodes (length k.instances) a delay long 0) (sym nets)
    ∙ ap (λ (a : ℕ). report_by o m nodes (length k.instances) (net_count k) delay a 0) measured

-- ---- with tracks

pub right_layout : RightIsWellFormed → RightDrawingsAreRight → DrawingCanBeWritten → WrittenIsReadAgain → AlikeRun → AlikeBothWays → DrivenIsGood
    → (l : Library) (o : Origin) (m : Machine) (fanout : ℕ) (n : Netlist) (delay : ℕ) (f : Figure) (long nodes : ℕ) (report : List ℕ)
    → HasPassed false l → IsDrawableIn l n → MayBeDrawn true l o m fanout n delay → IsDrawnInTracks l n f → IsLengthOf l n long → IsGreatestDcount m nodes
    → report ≡ report_by o m nodes (length n.instances) (n.count - 2) delay long 0 → IsRightLayout (text_of f) o m l fanout on_tracks report
right_layout well extracted written again runs back good l o m fanout n delay f long nodes report passed given h drawn measured counted reported =
    let right = h.netlist.right in
    let k = right.sourced.netlist in
    let r = right_for well runs back good true l o m fanout n delay passed h in
    let ports = h.soon.ports in
    let fits = written l n f passed given h.soon.named h.soon.short h.soon.few (omega (arith, ports)) drawn in
    record {
      figure = f;
      netlist = k;
      placement = row_of k;
      file = again f fits.0 fits.1;
      named = drawn.named ∙ ap (λ (name : List ℕ). Some (scalar name)) r.named;
      extracts = extracted l n h.o k f passed given h.ordered right right.seen drawn;
      well = r.well;
      agrees = r.agrees;
      by_states = r.by_states;
      lawful = drawn.lawful;
      is_placed = drawn.placed k right.seen;
      many_buffers = r.many_buffers;
      in_order = record { tracks = refl; one_row = refl; order = r.order };
      lean = r.lean;
      tight = r.tight;
      delay = delay;
      driven = r.driven;
      nodes = nodes;
      counted = counted;
      reported = reported ∙ report_same o m nodes delay l n k (row_of k) long right.seen (measured k right.seen);
    }
