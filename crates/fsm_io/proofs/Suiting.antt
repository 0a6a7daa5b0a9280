-- What a text on its way through the checks gives.
use Rattle.std.proofs.Common.{◌≡◌, ◌≤◌, ℕ, Bool, false, List, None, map, length, bytes_eq, sym, ap, subst, ◌∙◌}
use Rattle.std.specs.List.{flat_map, All}
use Rattle.vlsi_base.specs.declared.name.Name.{Name}
use Rattle.vlsi_base.specs.declared.name.Port.{Port}
use Rattle.vlsi_base.specs.Member.{In, AllDifferent}
use Rattle.machine_core.specs.Machine.{names_of}
use Rattle.source_checks.specs.declared.symbol_table.Symbol.{Symbol}
use Rattle.source_checks.specs.Symbols.{all_names}
use Rattle.source_checks.specs.Formula.{place}
use Rattle.source_checks.specs.Drivers.{is_among}
use Rattle.source_checks.specs.Elaboration.{port_bits}
use Rattle.vlsi_model.proofs.Members.{different_Sub}
use Rattle.vlsi_model.proofs.Bits.{different_texts, different_bits, bit_all, bit_of_symbol}
use Rattle.vlsi_model.proofs.PortBits.{ports_sub}
use Rattle.fsm_text.specs.Written.{MachineTree}
use Rattle.fsm_io.specs.declared.check.Checking.{Checking}
use Rattle.fsm_io.specs.Known.{symbols}
use Rattle.fsm_io.specs.Looks.{Mention, all_mentions}
use Rattle.fsm_io.specs.Drivers.{names_at, unassigned_at, first_of, first_unassigned}
use Rattle.fsm_io.specs.Pieces.{Suits, tree_of, AreMarked, is_marked}
use Rattle.std.specs.List.Sorted.{IsPermutation}
use Rattle.std.proofs.lemmas.List.Sorted.{IsPermutation-sym, IsPermutation-map}
use Rattle.vlsi_base.specs.Tree.{Tree}
use Rattle.vlsi_base.specs.declared.name.Dir.TheVariants as dir
use Rattle.machine_core.proofs.Values.{In-map}
use Rattle.source_checks.specs.Drivers.{target_names}
use Rattle.source_checks.specs.Formula.{formulas}
use Rattle.source_checks.specs.Elaboration.{port_of}
use Rattle.vlsi_model.specs.Numbered.{HasVars}
use Rattle.vlsi_model.proofs.Members.{In-Sub}
use Rattle.vlsi_model.proofs.Sorting.{different_names}
use Rattle.vlsi_model.proofs.Assembly.{In-permutation, All-from_In}
use Rattle.fsm_io.specs.declared.bits.Frame.{Frame as HeldFrame}
use Rattle.fsm_io.specs.Looks.{asserting, assigning, testing, selecting, listing}
use Rattle.fsm_io.specs.Pieces.{roles_of, early_fault, IsFrame, CanBeRead, BodyFits}
use Rattle.fsm_io.specs.Verdict.{most_numbered}
use Rattle.fsm_io.proofs.Fine.{early_fine, each_fine}
use Rattle.fsm_io.proofs.Facts.{Facts, facts, ReadsPorts, condition_reads, fine_assignment}
use Rattle.fsm_io.proofs.Fits.{Fits, fits_body}
use Rattle.fsm_io.proofs.Leasts.{unassigned_agree, first_agree}

pub suits_different : (k : Checking) → Suits k → AllDifferent (map (λ (s : Symbol). s.text) k.numbers.now)
suits_different k s = subst (λ (known : List Symbol). AllDifferent (map (λ (x : Symbol). x.text) known)) (sym s.numbers) (different_texts (symbols (tree_of k)) s.once)

pub ports_differ : (known : List Symbol) → AllDifferent (map (λ (s : Symbol). s.text) known) → AllDifferent (names_of (port_bits known))
ports_differ known d = different_Sub (names_of (port_bits known)) (all_names known) (ports_sub known) (different_bits known d)

-- marks say what nothing assigns
pub undriven_is : (m : MachineTree) (known ss : List Symbol) (ms : List Mention) (marks marks' : List Bool) → known ≡ symbols m → ss ≡ known → marks' ≡ marks → ms ≡ all_mentions m → AllDifferent (map (λ (s : Symbol). s.text) known)
    → AreMarked known (flat_map (names_at known) ms) marks → first_of (unassigned_at (λ (n : Name). is_marked marks' (place (all_names known) n))) ss ≡ first_unassigned m
undriven_is m known ss ms marks marks' is listed same stands d h =
    ap (λ (xs : List Bool). first_of (unassigned_at (λ (n : Name). is_marked xs (place (all_names known) n))) ss) same
    ∙ ap (first_of (unassigned_at (λ (n : Name). is_marked marks (place (all_names known) n)))) listed
    ∙ first_agree (unassigned_at (λ (n : Name). is_marked marks (place (all_names known) n))) (unassigned_at (is_among (flat_map (names_at known) ms))) known
    (λ s i. unassigned_agree (λ (n : Name). is_marked marks (place (all_names known) n)) (is_among (flat_map (names_at known) ms)) s (λ n j. h.marked n (bit_all known n s (bit_of_symbol known n s d i j))))
    ∙ ap (λ (xs : List Mention). first_of (unassigned_at (is_among (flat_map (names_at known) xs))) known) stands
    ∙ ap (λ (xs : List Symbol). first_of (unassigned_at (is_among (flat_map (names_at xs) (all_mentions m)))) xs) is

-- ---- the frame of the elaboration

port_declared : (k : Checking) → Suits k → (ports : List Port) → IsPermutation (port_bits (symbols (tree_of k))) ports → (n : Name) → In n (names_of ports) → In n (all_names k.numbers.now)
port_declared k s ports p n i =
    let known = symbols (tree_of k) in
    subst (λ (ks : List Symbol). In n (all_names ks)) (sym s.numbers)
    (In-Sub n (names_of (port_bits known)) (all_names known) (ports_sub known)
    (In-permutation (names_of ports) (names_of (port_bits known)) n (IsPermutation-map (λ (q : Port). q.name) ports (port_bits known) (IsPermutation-sym (port_bits known) ports p)) i))

pub vars_declared : (k : Checking) → Suits k → (ports : List Port) (vars : List Name) → IsPermutation (port_bits (symbols (tree_of k))) ports → vars ≡ names_of ports → All (λ n. In n (all_names k.numbers.now)) vars
vars_declared k s ports vars p is = All-from_In (λ n. In n (all_names k.numbers.now)) vars (λ n i. port_declared k s ports p n (subst (λ (ns : List Name). In n ns) is i))

pub vars_differ : (k : Checking) → Suits k → (ports : List Port) (vars : List Name) → IsPermutation (port_bits (symbols (tree_of k))) ports → vars ≡ names_of ports → AllDifferent vars
vars_differ k s ports vars p is =
    let known = symbols (tree_of k) in
    subst (λ (ns : List Name). AllDifferent ns) (sym is)
    (different_names (names_of (port_bits known)) (names_of ports) (IsPermutation-map (λ (q : Port). q.name) (port_bits known) ports p) (ports_differ known (different_texts known s.once)))

pub frame_ok : (k : Checking) (f : HeldFrame) (ports : List Port) → Suits k → f.numbers.now ≡ k.numbers.now → f.vars.now ≡ names_of ports → HasVars (all_names k.numbers.now) f.vars.now f.places.now
    → IsPermutation (port_bits (symbols (tree_of k))) ports → length f.states.now ≤ most_numbered → IsFrame f
frame_ok k f ports s same vars table p few = record {
  texts = subst (λ (ks : List Symbol). AllDifferent (map (λ (x : Symbol). x.text) ks)) (sym same) (suits_different k s);
  declared = λ n i. subst (λ (ks : List Symbol). In n (all_names ks)) (sym same) (port_declared k s ports p n (subst (λ (ns : List Name). In n ns) vars i));
  table = subst (λ (ks : List Symbol). HasVars (all_names ks) f.vars.now f.places.now) (sym same) table;
  few = few;
}

read_in : (k : Checking) (f : HeldFrame) (ports : List Port) → f.numbers.now ≡ symbols (tree_of k) → f.vars.now ≡ names_of ports → IsPermutation (port_bits (symbols (tree_of k))) ports
    → (e : Tree) → ReadsPorts (tree_of k) (roles_of k) e → CanBeRead f e
read_in k f ports same vars p e h = record {
  each = λ x i n j.
      let r = h x (subst (λ (ks : List Symbol). In x (formulas ks e)) same i) n j in
      subst (λ (ns : List Name). In n ns) (sym vars)
      (In-map (λ (q : Port). q.name) (port_of dir.In n) ports (In-permutation (port_bits (symbols (tree_of k))) ports (port_of dir.In n) p r.port));
}

place_fits : (k : Checking) (f : HeldFrame) (ports : List Port) → Facts (tree_of k) (roles_of k) → f.numbers.now ≡ symbols (tree_of k) → f.vars.now ≡ names_of ports → f.next.now ≡ k.roles.next.now
    → IsPermutation (port_bits (symbols (tree_of k))) ports → (x : Mention) → In x (all_mentions (tree_of k)) → Fits f x
place_fits k f ports fs same vars to p (asserting e) i = tt
place_fits k f ports fs same vars to p (selecting seen line called) i = tt
place_fits k f ports fs same vars to p (listing states) i = tt
place_fits k f ports fs same vars to p (testing line e) i =
    read_in k f ports same vars p e (condition_reads (tree_of k) (roles_of k) fs line e (each_fine (tree_of k) (roles_of k) fs.fine (testing line e) i))
place_fits k f ports fs same vars to p (assigning t line e) i = λ other.
    let a = fine_assignment (tree_of k) (roles_of k) fs t line e (ap (λ (x : List ℕ). bytes_eq t.name x) (sym to) ∙ other) (each_fine (tree_of k) (roles_of k) fs.fine (assigning t line e) i) in record {
      declared = λ n j. subst (λ (ks : List Symbol). In n (all_names ks)) (sym same) (a.declared n (subst (λ (ks : List Symbol). In n (target_names ks t)) same j));
      equal = ap (λ (ks : List Symbol). length (target_names ks t)) same ∙ a.equal ∙ ap (λ (ks : List Symbol). length (formulas ks e)) (sym same);
      read = read_in k f ports same vars p e a.read;
    }

pub fits_ok : (k : Checking) (f : HeldFrame) (ports : List Port) → Suits k → early_fault (tree_of k) (roles_of k) ≡ None → f.numbers.now ≡ k.numbers.now → f.vars.now ≡ names_of ports → f.next.now ≡ k.roles.next.now
    → IsPermutation (port_bits (symbols (tree_of k))) ports → BodyFits f (tree_of k).step.body
fits_ok k f ports s early same vars to p =
    let fs = facts (tree_of k) (roles_of k) (early_fine (tree_of k) (roles_of k) early) s.once s.roles in
    fits_body f false (tree_of k).step.body (place_fits k f ports fs (same ∙ s.numbers) vars to p)
