-- Refusals of `gen` over told files: its source is never at fault, and of the limits none is of the source.
use Rattle.std.proofs.Common.{◌≡◌, inl, inr, ℕ, List, [], ◌∷◌, Option, None, Some, IfSome, Err, get_or, refl, sym, ap, subst, ◌∙◌, arith}
use Rattle.std.specs.FinMap.{get}
use Rattle.vlsi_shelf.specs.Files.{Files}
use Rattle.vlsi_shelf.specs.Shelf.{Writes}
use Rattle.catal.specs.Cells.{cells_in}
use Rattle.cell_lib.specs.declared.error.LibError.{LibError}
use Rattle.cell_lib.specs.declared.error.LibError.TheVariants as errors
use Rattle.cell_lib.specs.Files.{catal_name, cell_files, library_plan}
use Rattle.cell_lib.specs.Load.{refused}
use Rattle.cell_lib.specs.Library.{bad_list, bad_cell, IsRefusedLibrary, status_of}
use Rattle.gen_circuit.specs.Written.{CircuitsCanBeWritten, CircuitsAreReadAgain}
use Rattle.flow_words.specs.declared.words.GenCommand.{GenCommand}
use Rattle.tool_drive.specs.declared.status.Status.{Status}
use Rattle.tool_drive.specs.declared.status.Status.TheVariants as status
use Rattle.tool_drive.specs.declared.status.FileCause.TheVariants.{Missing, ReadFault, WriteFault, OutFault}
use Rattle.tool_drive.specs.declared.tool.Written.{Written}
use Rattle.tool_drive.specs.Outside.{Outside}
use Rattle.tool_drive.specs.Held.{Holds, AreHad}
use Rattle.tool_drive.specs.Plan.{Inputs, inputs, Reading, got, lacking, long, go_on, limited, held, gather, reading}
use Rattle.tool_drive.specs.Table.{refusal, ComesTo, Caused}
use Rattle.flow_run.specs.Origin.{is_fsm}
use Rattle.flow_run.specs.Flow.{flow_plan, flow_answers, IsFlowRefusal, no_list, no_text, over_size, no_source, no_cell, unread, uncovered, over_budget}
use Rattle.flow_run.specs.Generated.{IsFitting, circuit_text, unwritten, laid, with_source, IsForLibrary, SourcesAreSpared}
use Rattle.flow_run.proofs.Standing.{stood, held_is}
use Rattle.flow_run.proofs.Circuits.{fits, not_text, is_text, source_read, written_here, held_same}

-- ---- files that are too long

-- where the source was had, what is too long is a file of the library
long_too : (x : Reading (List ℕ)) (y : List ℕ → Reading (List (List ℕ))) (text : List ℕ) (most : ℕ)
    → go_on (go_on (go_on x (λ b. got (b ∷ []))) (λ more. got (text ∷ more))) (λ first. go_on (y (get_or first 1 [])) (λ more. got (inputs first more))) ≡ long most
    → go_on (go_on x (λ b. got (b ∷ []))) (λ first. go_on (y (get_or first 0 [])) (λ more. got (inputs first more))) ≡ long most
long_too (lacking name) y text most h = absurd (cc h)
long_too (long k) y text most h = h
long_too (got b) y text most h = by (y b) h where
  by : (r : Reading (List (List ℕ))) → go_on r (λ more. got (inputs (text ∷ b ∷ []) more)) ≡ long most → go_on r (λ more. got (inputs (b ∷ []) more)) ≡ long most
  by (got more) h = absurd (cc h)
  by (lacking name) h = absurd (cc h)
  by (long k) h = h

library_long : (c : GenCommand) (files : Files) (most : ℕ) → Holds files c.flow.source (circuit_text c) → reading files (flow_plan c.flow) ≡ long most
    → reading files (library_plan c.flow.library) ≡ long most
library_long c files most h e =
    let catal = catal_name c.flow.library in
    let x : Reading (List ℕ) = held (get files catal) (limited catal) in
    let y : List ℕ → Reading (List (List ℕ)) = λ b. gather files (cell_files c.flow.library (cells_in b)) in
    let all : Reading (List ℕ) → Reading Inputs = λ r.
    go_on (go_on r (λ bytes. go_on (go_on x (λ b. got (b ∷ []))) (λ more. got (bytes ∷ more)))) (λ first. go_on (y (get_or first 1 [])) (λ more. got (inputs first more))) in
    long_too x y (circuit_text c) most (ap all (sym (held_is files c.flow.source (circuit_text c) h)) ∙ e)

-- ---- refusals

of_library : (c : GenCommand) (files : Files) (catal : List ℕ) (cells : List (List ℕ)) → Holds files (catal_name c.flow.library) catal
    → AreHad files (cell_files c.flow.library (cells_in catal)) cells → (e : LibError) (s : Status) → IsRefusedLibrary c.flow.tracks catal cells e → s ≡ status_of e
    → IsForLibrary c files s
of_library c files catal cells h g e s r is = subst (λ (x : Status). IsForLibrary c files x) (sym is) (by e r) where
  by : (e : LibError) → IsRefusedLibrary c.flow.tracks catal cells e → IsForLibrary c files (status_of e)
  by errors.Memory r = tt
  by (errors.Missing name) r = tt
  by (errors.ReadFault name) r = tt
  by (errors.Limit l) r = inr (record { catal = catal; cells = cells; catal_is = h; cells_are = g; error = errors.Limit l; refused = r; is = refl })
  by (errors.BadCatal line) r = tt
  by (errors.BadCell cell number) r = tt

module _ (again : CircuitsAreReadAgain) (written : CircuitsCanBeWritten) where
  refused_so : (c : GenCommand) → IsFitting c → (files : Files) (catal : List ℕ) (cells : List (List ℕ)) → Holds files (catal_name c.flow.library) catal
      → AreHad files (cell_files c.flow.library (cells_in catal)) cells → (s : Status) → IsFlowRefusal c.flow (circuit_text c) catal cells s → IsForLibrary c files s
  refused_so c fit files catal cells h g s (unread (no_list fault bad is)) = of_library c files catal cells h g (refused fault) s (bad_list fault bad refl) is
  refused_so c fit files catal cells h g s (unread (no_source names uses (no_text bad))) = absurd (not_text again (is_fsm c.flow) c fit (is_text c fit) s bad)
  refused_so c fit files catal cells h g s (unread (no_source names uses (over_size o m machine over is))) =
      let small = (fits again c fit).light m (source_read c fit (circuit_text c) o m machine).1 in
      absurd (omega (arith, small, over))
  refused_so c fit files catal cells h g s (unread (no_cell o m names e machine uses bad is)) = of_library c files catal cells h g e s (bad_cell names uses bad) is
  refused_so c fit files catal cells h g s (uncovered o m l k read missing is) = subst (λ (x : Status). IsForLibrary c files x) (sym is) tt
  refused_so c fit files catal cells h g s (over_budget o m l read covers b) = subst (λ (x : Status). IsForLibrary c files x) (sym b.is) tt

  -- what was judged over the files with the source
  judged : (c : GenCommand) → IsFitting c → (old : Files) (told : Option Files) → told ≡ Some (with_source old c) → (s : Status) (part : Option Written)
      → ComesTo told (flow_plan c.flow) (flow_answers c.flow) (Err (refusal s part)) → IsForLibrary c (with_source old c) s
  judged c fit old told is s part comes =
      let h : ComesTo (Some (with_source old c)) (flow_plan c.flow) (flow_answers c.flow) (Err (refusal s part)) =
      subst (λ (t : Option Files). ComesTo t (flow_plan c.flow) (flow_answers c.flow) (Err (refusal s part))) is comes in
      let stand = stood (with_source old c) c.flow h.first h.more h.first_read h.more_read in
      let same : get_or h.first 0 [] ≡ circuit_text c = held_same old c.flow.source (circuit_text c) (get_or h.first 0 []) stand.source_is in
      elim h.answered [
        | inl refused ↦ refused_so c fit (with_source old c) (get_or h.first 1 []) h.more stand.catal_is stand.cells_are s
            (subst (λ (source : List ℕ). IsFlowRefusal c.flow source (get_or h.first 1 []) h.more s) same refused.1)
        | inr stuck ↦ subst (λ (x : Status). IsForLibrary c (with_source old c) x) (sym stuck.shown.status) tt
      ]

  laid_so : (c : GenCommand) → IsFitting c → (old : Files) (mid now : Outside) → mid.files ≡ Some (with_source old c) → (s : Status)
      → Caused (flow_plan c.flow) (flow_answers c.flow) mid now s → IsForLibrary c (with_source old c) s
  laid_so c fit old mid now is (status.Source name fault) h = judged c fit old mid.files is (status.Source name fault) h.0 h.1
  laid_so c fit old mid now is (status.Limit l) (inr h) = judged c fit old mid.files is (status.Limit l) h.0 h.1
  laid_so c fit old mid now is (status.Limit l) (inl h) =
      let files = with_source old c in
      let t = h.1 in
      let whole : reading files (flow_plan c.flow) ≡ long t.0 = subst (λ (o : Option Files). IfSome o (λ x. reading x (flow_plan c.flow) ≡ long t.0)) is t.2 in
      let source : Holds files c.flow.source (circuit_text c) =
      record { is = written_here old c.flow.source (circuit_text c); fits = (written c.flow.seed c.size fit.least fit.most).1.short } in
      inl (t.0, t.1, library_long c files t.0 source whole)
  laid_so c fit old mid now is _ h = tt

  any : (told : Option Files) → IfSome told (λ old. Unit {0})
  any None = tt
  any (Some old) = tt

  told_so : (c : GenCommand) (told mid : Option Files) (s : Status) → Writes told mid c.flow.source (circuit_text c)
      → ((old : Files) → mid ≡ Some (with_source old c) → IsForLibrary c (with_source old c) s) → IfSome told (λ old. IsForLibrary c (with_source old c) s)
  told_so c None mid s w h = tt
  told_so c (Some old) mid s w h = h old w

  pub spared : SourcesAreSpared
  spared c before now s fit (laid mid w caused complete) = told_so c before.files mid.files s w.files (λ old is. laid_so c fit old mid now is s caused)
  spared c before now status.Memory fit (unwritten u) = any before.files
  spared c before now (status.File WriteFault name) fit (unwritten u) = any before.files
  spared c before now (status.File Missing name) fit (unwritten u) = absurd u
  spared c before now (status.File ReadFault name) fit (unwritten u) = absurd u
  spared c before now (status.File OutFault name) fit (unwritten u) = absurd u
  spared c before now _ fit (unwritten u) = absurd u
