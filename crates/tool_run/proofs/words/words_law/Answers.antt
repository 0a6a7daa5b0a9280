use Rattle.std.proofs.Common.{◌≡◌, refl}
use Rattle.tool_words.proofs.Entries.{named, AllName, tool_first}
use Rattle.syf_run.specs.Words.{syf, syf_from}
use Rattle.boom_run.specs.Words.{boom, boom_from}
use Rattle.boog_run.specs.Words.{boog, boog_from}
use Rattle.loon_run.specs.Words.{loon, loon_from}
use Rattle.ocp_run.specs.Words.{ocp, ocp_from}
use Rattle.nero_run.specs.Words.{nero, nero_from}
use Rattle.asimut_run.specs.Words.{asimut, asimut_from}
use Rattle.cougar_run.specs.Words.{cougar, cougar_from}
use Rattle.lvx_run.specs.Words.{lvx, lvx_from}
use Rattle.druc_run.specs.Words.{druc, druc_from}
use Rattle.proof_run.specs.Words.{proof, proof_from}
use Rattle.flatbeh_run.specs.Words.{flatbeh, flatbeh_from}
use Rattle.s2r_run.specs.Words.{s2r, s2r_from}
use Rattle.scapin_run.specs.Words.{scapin, scapin_from}
use Rattle.fmi_run.specs.Words.{fmi, fmi_from}
use Rattle.rip_run.specs.Words.{rip, rip_from}
use Rattle.area_run.specs.Words.{area, area_from}
use Rattle.asimut_run.specs.declared.words.AsimutTask.{AsimutTask}
use Rattle.asimut_run.specs.declared.words.AsimutTask.TheVariants as task
use Rattle.tool_run.specs.declared.words.Command.TheVariants as command
use Rattle.tool_run.specs.Tools.{tools}
use Rattle.tool_run.specs.Answers.{word_of}
use Rattle.tool_run.proofs.words.words_law.Goals as goal

asimut_named : (t : AsimutTask) → asimut.word ≡ word_of (command.Asimut t)
asimut_named (task.Source c) = refl
asimut_named (task.Netlist c) = refl

-- the commands of each tool are called by its word
all_name : AllName word_of tools
all_name =
    (named word_of syf command.Syf syf_from (λ c. refl), (named word_of boom command.Boom boom_from (λ c. refl), (named word_of boog command.Boog boog_from (λ c. refl), (named word_of loon command.Loon loon_from (λ c. refl), (named word_of ocp command.Ocp ocp_from (λ c. refl), (named word_of nero command.Nero nero_from (λ c. refl), (named word_of asimut command.Asimut asimut_from asimut_named, (named word_of cougar command.Cougar cougar_from (λ c. refl), (named word_of lvx command.Lvx lvx_from (λ c. refl), (named word_of druc command.Druc druc_from (λ c. refl), (named word_of proof command.Proof proof_from (λ c. refl), (named word_of flatbeh command.Flatbeh flatbeh_from (λ c. refl), (named word_of s2r command.S2r s2r_from (λ c. refl), (named word_of scapin command.Scapin scapin_from (λ c. refl), (named word_of fmi command.Fmi fmi_from (λ c. refl), (named word_of rip command.Rip rip_from (λ c. refl), (named word_of area command.Area area_from (λ c. refl), tt)))))))))))))))))

pub returns : goal.returns
returns c = tool_first word_of tools all_name
