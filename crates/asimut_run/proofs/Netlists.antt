-- From the refusals of readers and of simulation on netlists to the tool's.
use Rattle.std.proofs.Common.{◌≡◌, ◌<◌, ◌^◌, ℕ, List, None, Ok, Err, ap, refl}
use Rattle.vlsi_base.specs.declared.fault.ReadError.{ReadError}
use Rattle.cell_model.specs.Library.{Library}
use Rattle.net_core.specs.declared.pins.ModelPins.{ModelPins}
use Rattle.net_core.specs.Netlist.{Netlist}
use Rattle.net_right.specs.Condition.{MeetsCondition}
use Rattle.net_machine.specs.Signals.{signal_ports, HasBehaviour}
use Rattle.net_machine.specs.Bits.{bits_of}
use Rattle.net_sim.specs.declared.error.NetSimError.{NetSimError}
use Rattle.net_sim.specs.declared.error.NetSimError.TheVariants as net
use Rattle.net_sim.specs.Answers.{IsSimRefusal}
use Rattle.net_sim.specs.Circuit.{IsFilledWith}
use Rattle.pat_meaning.specs.declared.patterns.Patterns.{Patterns}
use Rattle.pat_io.specs.PatternText.{IsPatternRefusal}
use Rattle.pat_io.specs.Spelling.{text_of}
use Rattle.vst_io.specs.Text.{IsVst, IsVstRefusal}
use Rattle.asimut_run.specs.declared.words.AsimutNetlistCommand.{AsimutNetlistCommand}
use Rattle.tool_drive.specs.declared.status.Status.{Status}
use Rattle.tool_drive.specs.declared.status.Status.TheVariants as status
use Rattle.tool_drive.specs.declared.status.Verdict.TheVariants.{Differs, NoBehaviour}
use Rattle.tool_drive.specs.Table.{IsJudged, refusal}
use Rattle.tool_drive.specs.Refusals.{MemoryOr, OfFile, of_file, judged_file}
use Rattle.asimut_run.specs.Netlist.{Texts, AreCells, AreRead, bad_netlist, bad_patterns, no_behaviour, many_bits, differs, Simulates, IsToldOf}

pub by_netlist : (c : AsimutNetlistCommand) (t : Texts) (l : Library) (table : List ModelPins) (e : ReadError) (s : Status) → AreCells t l table
    → IsVstRefusal t.source table e → MemoryOr s (OfFile c.source (λ x. x ≡ e) s) → IsJudged (Simulates c t) (Err (refusal s None))
by_netlist c t l table e s cells h k =
    judged_file (Simulates c t) c.source (IsVstRefusal t.source table) s (of_file c.source (IsVstRefusal t.source table) e h s k)
    (λ o. (refl, bad_netlist l table cells o))

pub by_patterns : (c : AsimutNetlistCommand) (t : Texts) (l : Library) (table : List ModelPins) (n : Netlist) (e : ReadError) (s : Status) → AreCells t l table
    → IsVst t.source table n → IsPatternRefusal t.patterns (signal_ports n.ports) e → MemoryOr s (OfFile c.patterns (λ x. x ≡ e) s)
    → IsJudged (Simulates c t) (Err (refusal s None))
by_patterns c t l table n e s cells is h k =
    judged_file (Simulates c t) c.patterns (IsPatternRefusal t.patterns (signal_ports n.ports)) s
    (of_file c.patterns (IsPatternRefusal t.patterns (signal_ports n.ports)) e h s k) (λ o. (refl, bad_patterns l table n cells is o))

pub by_simulation : (c : AsimutNetlistCommand) (t : Texts) (l : Library) (table : List ModelPins) (n : Netlist) (p : Patterns) (e : NetSimError) (s : Status)
    → AreRead t l table n p → MeetsCondition table n → IsSimRefusal n l p e → IsToldOf p.patterns e s → IsJudged (Simulates c t) (Err (refusal s None))
by_simulation c t l table n p e status.Memory read met h k = refl
by_simulation c t l table n p (net.NoBehaviour model) (status.No (NoBehaviour cell)) read met h k =
    (refl, no_behaviour l table n p model read h (ap (λ (x : List ℕ). status.No (NoBehaviour x)) k))
by_simulation c t l table n p (net.TooManyBits reached) (status.Limit limit) read met h k = (refl, many_bits l table n p reached read h.0 h.1 (ap status.Limit k))
by_simulation c t l table n p (net.Differs number name) (status.No (Differs label bit)) read met h k =
    (refl, differs l table n p number name read h.0 h.1 (h.2 table read.cells.pins met) (rw (k.0, k.1) refl))
by_simulation c t l table n p e _ read met h k = absurd k

pub by_text : (c : AsimutNetlistCommand) (t : Texts) (l : Library) (table : List ModelPins) (n : Netlist) (p out : Patterns) (name text : List ℕ) → AreRead t l table n p
    → HasBehaviour n l → bits_of n l < 2 ^ 32 → MeetsCondition table n → IsFilledWith n l p out → name ≡ c.source → text ≡ text_of out
    → IsJudged (Simulates c t) (Ok (record { name = name; file = None; text = text }))
by_text c t l table n p out name text read known few met filled named is = (
  named,
  refl,
  record { l = l; table = table; n = n; p = p; out = out; read = read; known = known; few = few; filled = filled table read.cells.pins met; text_is = is },
)
