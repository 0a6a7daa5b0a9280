-- From the refusals of readers and simulation to the tool's.
use Rattle.std.proofs.Common.{◌≡◌, ℕ, List, None, Err, subst, sym, refl, inl, inr}
use Rattle.vlsi_base.specs.declared.fault.ReadError.{ReadError}
use Rattle.machine_core.specs.Machine.{Machine}
use Rattle.pat_meaning.specs.declared.patterns.Patterns.{Patterns}
use Rattle.asimut_sim.specs.Answers.{IsRefusal}
use Rattle.pat_io.specs.PatternText.{IsPatternText, IsPatternRefusal}
use Rattle.vbe_io.specs.Text.{IsVbe, IsVbeRefusal}
use Rattle.asimut_sim.specs.declared.refusal.SimError.{SimError}
use Rattle.asimut_sim.specs.declared.refusal.SimError.TheVariants as sim
use Rattle.asimut_run.specs.declared.words.AsimutCommand.{AsimutCommand}
use Rattle.tool_drive.specs.declared.status.Status.{Status}
use Rattle.tool_drive.specs.declared.status.Status.TheVariants as status
use Rattle.tool_drive.specs.declared.status.Verdict.TheVariants.{Differs}
use Rattle.tool_drive.specs.Table.{IsJudged, refusal}
use Rattle.tool_drive.specs.Refusals.{MemoryOr, OfFile, of_file, judged_file}
use Rattle.asimut_run.specs.Asimut.{IsPatternFault, Simulates, IsToldOf}

pub by_source : (c : AsimutCommand) (source patterns : List ℕ) (e : ReadError) (s : Status) → IsVbeRefusal source e → MemoryOr s (OfFile c.source (λ x. x ≡ e) s)
    → IsJudged (Simulates c source patterns) (Err (refusal s None))
by_source c source patterns e s h k =
    judged_file (Simulates c source patterns) c.source (IsVbeRefusal source) s (of_file c.source (IsVbeRefusal source) e h s k) (λ o. (refl, inl o))

pub by_patterns : (c : AsimutCommand) (source patterns : List ℕ) (m : Machine) (e : ReadError) (s : Status) → IsVbe source m → IsPatternRefusal patterns m.ports e
    → MemoryOr s (OfFile c.patterns (λ x. x ≡ e) s) → IsJudged (Simulates c source patterns) (Err (refusal s None))
by_patterns c source patterns m e s is h k =
    judged_file (Simulates c source patterns) c.patterns (IsPatternFault source patterns) s
    (of_file c.patterns (IsPatternFault source patterns) e (record { m = m; machine = is; refused = h }) s k) (λ o. (refl, inr (inl o)))

pub by_difference : (c : AsimutCommand) (source patterns : List ℕ) (m : Machine) (p : Patterns) (e : SimError) (s : Status) → IsVbe source m → IsPatternText patterns m.ports p
    → IsRefusal m p e → IsToldOf p.patterns e s → IsJudged (Simulates c source patterns) (Err (refusal s None))
by_difference c source patterns m p e status.Memory is fits h k = refl
by_difference c source patterns m p (sim.Differs number name) (status.No (Differs label n)) is fits h k = (
  refl,
  inr (inr (record {
    m = m;
    p = p;
    number = number;
    machine = is;
    for_ports = fits;
    differs = subst (λ x. IsRefusal m p (sim.Differs number x)) (sym k.1) h;
    label_is = k.0;
  })),
)
by_difference c source patterns m p e _ is fits h k = absurd k
