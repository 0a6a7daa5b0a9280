-- What is refused, and what an order of nodes says of the source.
use Rattle.std.proofs.Common.{◌≡◌, inl, ℕ, ◌+◌, ◌-◌, ◌<◌, List, [], ◌∷◌, map, length, Option, None, Some, refl, sym, ap, ◌∙◌, subst, arith}
use Rattle.std.specs.Prelude.{slice_index}
use Rattle.std.specs.List.{All}
use Rattle.std.specs.List.Sorted.{IsPermutation}
use Rattle.std.proofs.lemmas.List.{length-map}
use Rattle.vlsi_base.specs.declared.name.Name.{Name}
use Rattle.vlsi_base.specs.declared.fault.FaultKind.{FaultKind}
use Rattle.vlsi_base.specs.declared.fault.FaultKind.TheVariants as kind
use Rattle.vlsi_base.specs.declared.fault.ReadError.{ReadError}
use Rattle.vlsi_base.specs.declared.fault.ReadError.TheVariants as error
use Rattle.bool_expr.specs.View.{view}
use Rattle.bit_order.specs.declared.outcome.Order.{Order}
use Rattle.bit_order.specs.declared.outcome.Order.TheVariants.{Sorted, Ring}
use Rattle.bit_order.specs.Order as order
use Rattle.bit_order.proofs.Rounds.{sorted_leaves_no_ring}
use Rattle.machine_core.specs.Order.{In}
use Rattle.source_checks.specs.declared.statement.DesignFile.{DesignFile}
use Rattle.source_checks.specs.declared.symbol_table.Symbol.{Symbol}
use Rattle.source_checks.specs.declared.drivers.NameFault.{NameFault}
use Rattle.source_checks.specs.Places.{Use, in_statements, statement_uses, first_unknown}
use Rattle.vlsi_base.specs.Range.{rising}
use Rattle.source_checks.specs.Symbols.{symbols, all_names}
use Rattle.source_checks.specs.Formula.{place, numbered}
use Rattle.source_checks.specs.Widths.{all_width_faults}
use Rattle.source_checks.specs.Drivers.{drivers, all_driven, first_second_driver, first_undriven}
use Rattle.source_checks.specs.Unsupported.{all_unsupported}
use Rattle.source_checks.specs.Clock.{all_clock_lines, clock_text}
use Rattle.source_checks.specs.Cycles.{Reads}
use Rattle.source_checks.specs.Checks.{first_fault, if_use, if_line, if_name, if_symbol, first_repeated, IsRefused}
use Rattle.source_checks.specs.Elaboration.{Definition, definitions}
use Rattle.source_bits.specs.declared.driven.DrivenBit.{DrivenBit}
use Rattle.source_bits.specs.Driven.{Numbered, driven_view, numbered_definition}
use Rattle.vlsi_model.specs.declared.source.Source.{Source}
use Rattle.vlsi_model.specs.Sources.{IsSourceOf}
use Rattle.vlsi_model.specs.Nodes.{HasNodes, IsOrderOfBits, nodes_read}
use Rattle.vlsi_model.specs.Laid.{names_defined, IsNodeOrder, definition_at, no_definition}
use Rattle.vlsi_model.specs.Ordered.{IsNodeRing, IsOrderOfSource, name_of_node}
use Rattle.vlsi_model.proofs.Bits.{bit_all}
use Rattle.vlsi_model.proofs.FineSources.{Facts}
use Rattle.vlsi_model.proofs.Numbering.{holds_In}
use Rattle.vlsi_model.proofs.Expressions.{IsReadable}
use Rattle.vlsi_model.proofs.Sorting.{In-at}
use Rattle.vlsi_model.proofs.Building.{map-then, defined_declared}
use Rattle.vlsi_model.proofs.SourceBits.{driven_bits_are}
use Rattle.vlsi_model.proofs.Orders.{IsNoded, reads_in, edge_back, names_count, sorted_permutation, sorted_earlier, sorted_no_ring}

-- a check gives faults of the input alone

abbrev NoLimit : Option ReadError → Type 0
NoLimit None = Unit {0}
NoLimit (Some error.Memory) = Unit {0}
NoLimit (Some (error.Input f)) = Unit {0}
NoLimit (Some (error.Limit l)) = ⊥

symbol_no : (o : Option Symbol) (e : Option ReadError) → NoLimit e → NoLimit (if_symbol o e)
symbol_no None e h = h
symbol_no (Some s) e h = tt

use_no : (o : Option Use) (e : Option ReadError) → NoLimit e → NoLimit (if_use o e)
use_no None e h = h
use_no (Some s) e h = tt

line_no : (k : FaultKind) (o : List ℕ) (e : Option ReadError) → NoLimit e → NoLimit (if_line k o e)
line_no k [] e h = h
line_no k (l ∷ ls) e h = tt

name_no : (k : FaultKind) (o : Option NameFault) (e : Option ReadError) → NoLimit e → NoLimit (if_name k o e)
name_no k None e h = h
name_no k (Some f) e h = tt

no_limit : (design : DesignFile) → NoLimit (first_fault design)
no_limit design =
    symbol_no (first_repeated [] (symbols design)) _ (use_no (first_unknown (symbols design) (in_statements statement_uses design.statements)) _ (line_no kind.Width (all_width_faults design) _
    (name_no kind.TwoDrivers (first_second_driver [] (drivers design)) _ (name_no kind.Undriven (first_undriven (all_driven (drivers design)) (symbols design)) _
    (line_no kind.Unsupported (all_unsupported design) _ (line_no kind.ClockUse (all_clock_lines design) None tt))))))

pub refused : (design : DesignFile) (e : ReadError) → first_fault design ≡ Some e → IsRefused design e
refused design error.Memory is = tt
refused design (error.Input f) is = inl is
refused design (error.Limit l) is = absurd (subst NoLimit is (no_limit design))

-- orders and rings of nodes

noded : (design : DesignFile) (table : List ℕ) (total : ℕ) → Facts design → total ≡ length (all_names (symbols design)) → HasNodes (map (place (all_names (symbols design))) (names_defined (definitions design))) table total → IsNoded (all_names (symbols design)) (definitions design) table
noded design table total f e h = record {
  declared = defined_declared design f;
  readable = λ d i n j. let r = holds_In (IsReadable (symbols design) (clock_text design)) d.formula (f.defines d i).reads n j in bit_all (symbols design) n r.symbol r.bit;
  has = subst (HasNodes (map (place (all_names (symbols design))) (names_defined (definitions design))) table) e h;
}

node_order : (design : DesignFile) (table nodes : List ℕ) → Facts design → IsNoded (all_names (symbols design)) (definitions design) table → order.IsSortedOrder (reads_in (all_names (symbols design)) (definitions design) table) nodes → IsNodeOrder design nodes
node_order design table nodes f h s =
    let all = all_names (symbols design) in
    let count : length (reads_in all (definitions design) table) ≡ length (definitions design) = length-map (definitions design) (λ (d : Definition). nodes_read (length (definitions design)) table (numbered all d.formula)) in record {
      moved = subst (λ n. IsPermutation (rising 0 n) nodes) count (sorted_permutation (reads_in all (definitions design) table) nodes s);
      earlier = sorted_earlier all (definitions design) table nodes h s;
    }

step : (design : DesignFile) (table : List ℕ) → IsNoded (all_names (symbols design)) (definitions design) table → (a b : ℕ) → a < length (definitions design) → order.Reads (reads_in (all_names (symbols design)) (definitions design) table) a b → Reads (definitions design) (name_of_node design a) (name_of_node design b)
step design table h a b inside r =
    let reads = order.reads_of (reads_in (all_names (symbols design)) (definitions design) table) a in
    let among : In b reads = subst (λ k. In k reads) r.2 (In-at reads r.0 b r.1) in
    (definition_at (definitions design) a, In-at (definitions design) a no_definition inside, refl, (edge_back (all_names (symbols design)) (definitions design) table h a b inside among).1)

node_ring : (design : DesignFile) (table nodes : List ℕ) → IsNoded (all_names (symbols design)) (definitions design) table → order.IsRing (reads_in (all_names (symbols design)) (definitions design) table) nodes → IsNodeRing design nodes
node_ring design table nodes h r =
    let all = all_names (symbols design) in
    let count : length (reads_in all (definitions design) table) ≡ length (definitions design) = length-map (definitions design) (λ (d : Definition). nodes_read (length (definitions design)) table (numbered all d.formula)) in
    let inside : All (λ k. k < length (definitions design)) nodes = subst (λ n. All (λ k. k < n) nodes) count r.inside in record {
      some = r.round.some;
      inside = inside;
      once = r.once;
      next = λ p q. step design table h (slice_index nodes p) (slice_index nodes (p + 1)) (inside p 0 (omega (arith, q))) (r.round.next p q);
      first = step design table h (slice_index nodes (length nodes - 1)) (slice_index nodes 0) (inside (length nodes - 1) 0 (omega (arith, r.round.some))) r.round.first;
    }

same_reads : (design : DesignFile) (s : Source) (count : ℕ) (table : List ℕ) → IsSourceOf design s → count ≡ length (definitions design) → map (nodes_read count table) (map (λ (d : DrivenBit). view d.expr) s.driven.items) ≡ reads_in (all_names (symbols design)) (definitions design) table
same_reads design s count table h e =
    let all = all_names (symbols design) in
    let exprs : map (λ (d : DrivenBit). view d.expr) s.driven.items ≡ map (λ (d : Definition). numbered all d.formula) (definitions design) =
    sym (map-then (λ (n : Numbered). n.expr) driven_view s.driven.items) ∙ ap (map (λ (n : Numbered). n.expr)) h.driven ∙ map-then (λ (n : Numbered). n.expr) (numbered_definition all) (definitions design) in
    ap (map (nodes_read count table)) exprs ∙ map-then (nodes_read count table) (λ (d : Definition). numbered all d.formula) (definitions design)
    ∙ ap (λ (n : ℕ). map (λ (d : Definition). nodes_read n table (numbered all d.formula)) (definitions design)) e

pub order_of_source : (design : DesignFile) (s : Source) (driven : List DrivenBit) (total : ℕ) (o : Order) → Facts design → IsSourceOf design s → driven ≡ s.driven.items → total ≡ length (all_names s.numbers)
    → IsOrderOfBits (map (λ (d : DrivenBit). d.bit) driven) (map (λ (d : DrivenBit). view d.expr) driven) total o → IsOrderOfSource design o
order_of_source design s driven total o f h same count b = by o order_is where
  all : List Name
  all = all_names (symbols design)

  bits : map (λ (d : DrivenBit). d.bit) driven ≡ map (place all) (names_defined (definitions design))
  bits = ap (map (λ (d : DrivenBit). d.bit)) same ∙ driven_bits_are design s h

  has : IsNoded all (definitions design) b.nodes
  has = noded design b.nodes total f (count ∙ ap (λ (known : List Symbol). length (all_names known)) h.numbers) (subst (λ (bs : List ℕ). HasNodes bs b.nodes total) bits b.has)

  long : length (map (λ (d : DrivenBit). d.bit) driven) ≡ length (definitions design)
  long = ap (λ (xs : List ℕ). length xs) bits ∙ length-map (names_defined (definitions design)) (place all) ∙ names_count (definitions design)

  order_is : order.IsOrderOf (reads_in all (definitions design) b.nodes) o
  order_is = subst (λ (rs : List (List ℕ)). order.IsOrderOf rs o) (ap (λ (ds : List DrivenBit). map (nodes_read (length (map (λ (d : DrivenBit). d.bit) driven)) b.nodes) (map (λ (d : DrivenBit). view d.expr) ds)) same ∙ same_reads design s (length (map (λ (d : DrivenBit). d.bit) driven)) b.nodes h long) b.order

  by : (o : Order) → order.IsOrderOf (reads_in all (definitions design) b.nodes) o → IsOrderOfSource design o
  by (Sorted nodes) h = (node_order design b.nodes nodes.items f has h, sorted_no_ring all (definitions design) b.nodes nodes.items has f.defined_once sorted_leaves_no_ring h)
  by (Ring nodes) h = node_ring design b.nodes nodes.items has h
