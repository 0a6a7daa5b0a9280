-- What the tools beside `flow` and `gen` answer.
use Rattle.std.proofs.Common.{inl}
use Rattle.std.specs.Prelude.{ℕ, List, Result}
use Rattle.tool_drive.specs.declared.status.Status.{Status}
use Rattle.tool_drive.specs.declared.status.Status.TheVariants as status
use Rattle.tool_drive.specs.declared.tool.Product.{Product}
use Rattle.tool_drive.specs.declared.tool.Refusal.{Refusal}
use Rattle.tool_drive.specs.Plan.{Plan, Inputs}
use Rattle.tool_drive.specs.Outside.{Outside, IsUntouched}
use Rattle.tool_drive.specs.Table.{Caused, IsComplete, memory_complete}
use Rattle.syf_run.specs.Words.{syf}
use Rattle.syf_run.specs.Syf.{syf_plan, syf_answers}
use Rattle.boom_run.specs.Words.{boom}
use Rattle.boom_run.specs.Boom.{boom_plan, boom_answers}
use Rattle.boog_run.specs.Words.{boog}
use Rattle.boog_run.specs.Boog.{boog_plan, boog_answers}
use Rattle.loon_run.specs.Words.{loon}
use Rattle.loon_run.specs.Loon.{loon_plan, loon_answers}
use Rattle.ocp_run.specs.Words.{ocp}
use Rattle.ocp_run.specs.Ocp.{ocp_plan, ocp_answers}
use Rattle.nero_run.specs.Words.{nero}
use Rattle.nero_run.specs.Nero.{nero_plan, nero_answers}
use Rattle.asimut_run.specs.Words.{asimut}
use Rattle.asimut_run.specs.declared.words.AsimutTask.TheVariants as task
use Rattle.asimut_run.specs.Asimut.{asimut_plan, asimut_answers}
use Rattle.asimut_run.specs.Netlist.{netlist_plan, netlist_answers}
use Rattle.cougar_run.specs.Words.{cougar}
use Rattle.cougar_run.specs.Cougar.{cougar_plan, cougar_answers}
use Rattle.lvx_run.specs.Words.{lvx}
use Rattle.lvx_run.specs.Lvx.{lvx_plan, lvx_answers}
use Rattle.druc_run.specs.Words.{druc}
use Rattle.druc_run.specs.Druc.{druc_plan, druc_answers}
use Rattle.proof_run.specs.Words.{proof}
use Rattle.proof_run.specs.Proof.{proof_plan, proof_answers}
use Rattle.flatbeh_run.specs.Words.{flatbeh}
use Rattle.flatbeh_run.specs.Flatbeh.{flatbeh_plan, flatbeh_answers}
use Rattle.s2r_run.specs.Words.{s2r}
use Rattle.s2r_run.specs.S2r.{s2r_plan, s2r_answers}
use Rattle.scapin_run.specs.Words.{scapin}
use Rattle.scapin_run.specs.Scapin.{scapin_plan, scapin_answers}
use Rattle.fmi_run.specs.Words.{fmi}
use Rattle.fmi_run.specs.Fmi.{fmi_plan, fmi_answers}
use Rattle.rip_run.specs.Words.{rip}
use Rattle.rip_run.specs.Rip.{rip_plan, rip_answers}
use Rattle.area_run.specs.Words.{area}
use Rattle.area_run.specs.Area.{area_plan, area_answers}
use Rattle.tool_run.specs.declared.words.Command.{Command}
use Rattle.tool_run.specs.declared.words.Command.TheVariants as command

-- A status has its cause, and leaves the files that its row says; and over files that are told, where nothing failed, it is what
-- they come to.
abbrev pub IsAnswer : Plan → (Inputs → Result Product Refusal → Type 0) → Outside → Outside → Status → Type 0
IsAnswer plan A before now s = Caused plan A before now s × IsComplete plan A before now s

-- what a command is for: the word of its tool, what that reads, and how what is read and what is answered belong together
pub record Task : Type 1 where
  pub word : List ℕ
  pub plan : Plan
  pub answers : Inputs → Result Product Refusal → Type 0

abbrev pub task_of : Command → Task
task_of (command.Syf c) = record { word = syf.word; plan = syf_plan c; answers = syf_answers c }
task_of (command.Boom c) = record { word = boom.word; plan = boom_plan c; answers = boom_answers c }
task_of (command.Boog c) = record { word = boog.word; plan = boog_plan c; answers = boog_answers c }
task_of (command.Loon c) = record { word = loon.word; plan = loon_plan c; answers = loon_answers c }
task_of (command.Ocp c) = record { word = ocp.word; plan = ocp_plan c; answers = ocp_answers c }
task_of (command.Nero c) = record { word = nero.word; plan = nero_plan c; answers = nero_answers c }
task_of (command.Asimut (task.Source c)) = record { word = asimut.word; plan = asimut_plan c; answers = asimut_answers c }
task_of (command.Asimut (task.Netlist c)) = record { word = asimut.word; plan = netlist_plan c; answers = netlist_answers c }
task_of (command.Cougar c) = record { word = cougar.word; plan = cougar_plan c; answers = cougar_answers c }
task_of (command.Lvx c) = record { word = lvx.word; plan = lvx_plan c; answers = lvx_answers c }
task_of (command.Druc c) = record { word = druc.word; plan = druc_plan c; answers = druc_answers c }
task_of (command.Proof c) = record { word = proof.word; plan = proof_plan c; answers = proof_answers c }
task_of (command.Flatbeh c) = record { word = flatbeh.word; plan = flatbeh_plan c; answers = flatbeh_answers c }
task_of (command.S2r c) = record { word = s2r.word; plan = s2r_plan c; answers = s2r_answers c }
task_of (command.Scapin c) = record { word = scapin.word; plan = scapin_plan c; answers = scapin_answers c }
task_of (command.Fmi c) = record { word = fmi.word; plan = fmi_plan c; answers = fmi_answers c }
task_of (command.Rip c) = record { word = rip.word; plan = rip_plan c; answers = rip_answers c }
task_of (command.Area c) = record { word = area.word; plan = area_plan c; answers = area_answers c }

-- the word of the command's tool
abbrev pub word_of : Command → List ℕ
word_of k = (task_of k).word

-- the status is an answer of the tool that the command is for
abbrev pub IsAnswerTo : Command → Outside → Outside → Status → Type 0
IsAnswerTo k before now s = IsAnswer (task_of k).plan (task_of k).answers before now s

-- ---- a lemma that the top call's proof cites

-- out of memory answers everything, where no file changed
pub memory_answer : (k : Command) (before now : Outside) → IsUntouched before now → IsAnswerTo k before now status.Memory
memory_answer k before now same = (inl same, memory_complete (task_of k).plan (task_of k).answers before now)
