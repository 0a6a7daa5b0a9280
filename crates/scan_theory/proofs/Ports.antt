-- Ports with one more put in.
use Rattle.std.proofs.Common.{◌≡◌, ◌≢◌, ◌⊎◌, inl, inr, true, false, List, [], ◌∷◌, ◌++◌, filter, refl, sym, ◌∙◌, ap, subst}
use Rattle.std.specs.Prelude.{IsTrue}
use Rattle.std.specs.Ordering.{is_lt, ordering_reverse}
use Rattle.std.specs.declared.cmp.Ordering.{Ordering}
use Rattle.std.specs.declared.cmp.Ordering.TheVariants.{Less, Equal, Greater}
use Rattle.vlsi_base.specs.declared.name.Name.{Name}
use Rattle.vlsi_base.specs.declared.name.Port.{Port}
use Rattle.vlsi_base.specs.Name.{name_cmp}
use Rattle.vlsi_base.specs.Names.{vdd, vss, comes_before}
use Rattle.vlsi_base.specs.Member.{In, here, there}
use Rattle.vlsi_base.proofs.NameOrder.{name_total, name_exact}
use Rattle.machine_core.specs.Named.{is_same_name}
use Rattle.machine_core.proofs.Names.{same_name-itself}
use Rattle.cell_model.proofs.Members.{In-split, In-left, In-right}
use Rattle.cell_pins.specs.Pins.{supply}
use Rattle.cell_pins.proofs.Ports.{Sorted, in_filter, sorted_filter, before_trans, sorted_supply}
use Rattle.net_right.proofs.Lists.{filter_in}
use Rattle.net_right.proofs.Ports.{with_both, both_cases, vss_there, vdd_there}
use Rattle.net_bits.proofs.Lists.{in_cons}
use Rattle.scan_theory.specs.Scan.{scin, test, scout, in_port, out_port, with_port, scan_ports}

-- names whose test computes to no
differ : (a b : Name) → is_same_name a b ≡ false → a ≢ b
differ a b unlike e = let yes = subst (λ (x : Name). is_same_name a x ≡ true) e (same_name-itself a) in let never : true ≡ false = sym yes ∙ unlike in absurd cc

pub scin_test : scin ≢ test
scin_test = differ scin test refl

pub scin_scout : scin ≢ scout
scin_scout = differ scin scout refl

pub test_scout : test ≢ scout
test_scout = differ test scout refl

pub vdd_scin : vdd ≢ scin
vdd_scin = differ vdd scin refl

pub vdd_test : vdd ≢ test
vdd_test = differ vdd test refl

pub vdd_scout : vdd ≢ scout
vdd_scout = differ vdd scout refl

pub vss_scin : vss ≢ scin
vss_scin = differ vss scin refl

pub vss_test : vss ≢ test
vss_test = differ vss test refl

pub vss_scout : vss ≢ scout
vss_scout = differ vss scout refl

pub port_there : (p : Port) (ps : List Port) → In p (with_port p ps)
port_there p ps = In-right p (filter (λ q. comes_before q.name p.name) ps) _ here

-- another port stays
pub stays_with : (p : Port) (ps : List Port) (q : Port) → In q ps → q.name ≢ p.name → In q (with_port p ps)
stays_with p ps q i apart = by (name_cmp q.name p.name) refl where
  by : (o : Ordering) → name_cmp q.name p.name ≡ o → In q (with_port p ps)
  by Less e = In-left q (filter (λ x. comes_before x.name p.name) ps) _ (filter_in (λ x. comes_before x.name p.name) ps q i (ap is_lt e))
  by Equal e = absurd (apart (name_exact q.name p.name e))
  by Greater e =
      let turned : name_cmp p.name q.name ≡ Less = name_total.antisymm p.name q.name ∙ ap ordering_reverse e in
      In-right q (filter (λ x. comes_before x.name p.name) ps) _ (there (filter_in (λ x. comes_before p.name x.name) ps q i (ap is_lt turned)))

pub cases_with : (p : Port) (ps : List Port) (q : Port) → In q (with_port p ps) → (q ≡ p) ⊎ In q ps
cases_with p ps q i =
    elim (In-split q (filter (λ x. comes_before x.name p.name) ps) (p ∷ filter (λ x. comes_before p.name x.name) ps) i) [
      | inl a ↦ inr (in_filter (λ x. comes_before x.name p.name) ps q a).0
      | inr b ↦ behind (in_cons p (filter (λ x. comes_before p.name x.name) ps) q b)
    ] where
      behind : (q ≡ p) ⊎ In q (filter (λ x. comes_before p.name x.name) ps) → (q ≡ p) ⊎ In q ps
      behind (inl e) = inl e
      behind (inr h) = inr (in_filter (λ x. comes_before p.name x.name) ps q h).0

-- they stand in the order of names
sorted_append : (xs ys : List Port) → Sorted xs → Sorted ys → ((x y : Port) → In x xs → In y ys → IsTrue (comes_before x.name y.name)) → Sorted (xs ++ ys)
sorted_append [] ys s t cross = t
sorted_append (x ∷ xs) ys s t cross = (
  λ q i. elim (In-split q xs ys i) [ inl a ↦ s.0 q a | inr b ↦ cross x q here b ],
  sorted_append xs ys s.1 t (λ a b i j. cross a b (there i) j),
)

pub sorted_with : (p : Port) (ps : List Port) → Sorted ps → Sorted (with_port p ps)
sorted_with p ps s =
    sorted_append (filter (λ q. comes_before q.name p.name) ps) (p ∷ filter (λ q. comes_before p.name q.name) ps)
    (sorted_filter (λ q. comes_before q.name p.name) ps s)
    (λ q i. (in_filter (λ x. comes_before p.name x.name) ps q i).1, sorted_filter (λ q. comes_before p.name q.name) ps s)
    (λ x y i j. cross x y (in_filter (λ q. comes_before q.name p.name) ps x i).1 j) where
      cross : (x y : Port) → IsTrue (comes_before x.name p.name) → In y (p ∷ filter (λ q. comes_before p.name q.name) ps) → IsTrue (comes_before x.name y.name)
      cross x y low here = low
      cross x y low (there h) = before_trans x.name p.name y.name low (in_filter (λ q. comes_before p.name q.name) ps y h).1

pub scan_sorted : (ps : List Port) → Sorted ps → Sorted (scan_ports ps)
scan_sorted ps s =
    sorted_with (out_port scout) _ (sorted_with (in_port test) _ (sorted_with (in_port scin) _ (sorted_supply vss _ (sorted_supply vdd ps s))))

-- ---- the ports of a netlist with a scan path

pub data PortOf (ps : List Port) (q : Port) : Type 0 where
  is_scout : q ≡ out_port scout → PortOf ps q
  is_test : q ≡ in_port test → PortOf ps q
  is_scin : q ≡ in_port scin → PortOf ps q
  is_vss : q ≡ supply vss → PortOf ps q
  is_vdd : q ≡ supply vdd → PortOf ps q
  is_old : In q ps → PortOf ps q

pub port_of : (ps : List Port) (q : Port) → In q (scan_ports ps) → PortOf ps q
port_of ps q h = elim (cases_with (out_port scout) (with_port (in_port test) (with_port (in_port scin) (with_both ps))) q h) [
  | inl e ↦ is_scout e
  | inr h1 ↦ elim (cases_with (in_port test) (with_port (in_port scin) (with_both ps)) q h1) [
    | inl e ↦ is_test e
    | inr h2 ↦ elim (cases_with (in_port scin) (with_both ps) q h2) [
      | inl e ↦ is_scin e
      | inr h3 ↦ elim (both_cases ps q h3) [
        | inl e ↦ is_vss e
        | inr h4 ↦ elim h4 [ inl e ↦ is_vdd e | inr i ↦ is_old i ]
      ]
    ]
  ]
]

module _ (ps : List Port) where
  pub scout_in : In (out_port scout) (scan_ports ps)
  scout_in = port_there (out_port scout) (with_port (in_port test) (with_port (in_port scin) (with_both ps)))

  -- a port of another name than scout
  below_scout : (q : Port) → In q (with_port (in_port test) (with_port (in_port scin) (with_both ps))) → q.name ≢ scout → In q (scan_ports ps)
  below_scout q h apart = stays_with (out_port scout) (with_port (in_port test) (with_port (in_port scin) (with_both ps))) q h apart

  below_test : (q : Port) → In q (with_port (in_port scin) (with_both ps)) → q.name ≢ test → q.name ≢ scout → In q (scan_ports ps)
  below_test q h no_test no_scout = below_scout q (stays_with (in_port test) (with_port (in_port scin) (with_both ps)) q h no_test) no_scout

  pub from_both : (q : Port) → In q (with_both ps) → q.name ≢ scin → q.name ≢ test → q.name ≢ scout → In q (scan_ports ps)
  from_both q h no_scin no_test no_scout = below_test q (stays_with (in_port scin) (with_both ps) q h no_scin) no_test no_scout

  pub test_in : In (in_port test) (scan_ports ps)
  test_in = below_scout (in_port test) (port_there (in_port test) (with_port (in_port scin) (with_both ps))) test_scout

  pub scin_in : In (in_port scin) (scan_ports ps)
  scin_in = below_test (in_port scin) (port_there (in_port scin) (with_both ps)) scin_test scin_scout

  pub vdd_in : In (supply vdd) (scan_ports ps)
  vdd_in = from_both (supply vdd) (vdd_there ps) vdd_scin vdd_test vdd_scout

  pub vss_in : In (supply vss) (scan_ports ps)
  vss_in = from_both (supply vss) (vss_there ps) vss_scin vss_test vss_scout
