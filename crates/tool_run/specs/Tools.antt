-- The table of tools, and the commands of those beside `flow` and `gen`.
use Rattle.std.specs.Prelude.{ℕ, List, [], ◌∷◌, Option, map}
use Rattle.tool_words.specs.Table.{Entry}
use Rattle.tool_words.specs.Spelling.{Tool, tool, command_in}
use Rattle.flow_words.specs.Words.{flow, gen}
use Rattle.syf_run.specs.Words.{syf, syf_from}
use Rattle.boom_run.specs.Words.{boom, boom_from}
use Rattle.boog_run.specs.Words.{boog, boog_from}
use Rattle.loon_run.specs.Words.{loon, loon_from}
use Rattle.ocp_run.specs.Words.{ocp, ocp_from}
use Rattle.nero_run.specs.Words.{nero, nero_from}
use Rattle.asimut_run.specs.Words.{asimut, asimut_from}
use Rattle.cougar_run.specs.Words.{cougar, cougar_from}
use Rattle.lvx_run.specs.Words.{lvx, lvx_from}
use Rattle.druc_run.specs.Words.{druc, druc_from}
use Rattle.proof_run.specs.Words.{proof, proof_from}
use Rattle.flatbeh_run.specs.Words.{flatbeh, flatbeh_from}
use Rattle.s2r_run.specs.Words.{s2r, s2r_from}
use Rattle.scapin_run.specs.Words.{scapin, scapin_from}
use Rattle.fmi_run.specs.Words.{fmi, fmi_from}
use Rattle.rip_run.specs.Words.{rip, rip_from}
use Rattle.area_run.specs.Words.{area, area_from}
use Rattle.tool_run.specs.declared.words.Command.{Command}
use Rattle.tool_run.specs.declared.words.Command.TheVariants as command

-- the tools beside `flow` and `gen`: the entry of each, its commands, and which of them the values of words behind its word ask for
abbrev pub tools : List (Tool Command)
tools =
    tool syf command.Syf syf_from
    ∷ tool boom command.Boom boom_from
    ∷ tool boog command.Boog boog_from
    ∷ tool loon command.Loon loon_from
    ∷ tool ocp command.Ocp ocp_from
    ∷ tool nero command.Nero nero_from
    ∷ tool asimut command.Asimut asimut_from
    ∷ tool cougar command.Cougar cougar_from
    ∷ tool lvx command.Lvx lvx_from
    ∷ tool druc command.Druc druc_from
    ∷ tool proof command.Proof proof_from
    ∷ tool flatbeh command.Flatbeh flatbeh_from
    ∷ tool s2r command.S2r s2r_from
    ∷ tool scapin command.Scapin scapin_from
    ∷ tool fmi command.Fmi fmi_from
    ∷ tool rip command.Rip rip_from
    ∷ tool area command.Area area_from
    ∷ []

-- all entries, in the order of the usage line
abbrev pub entries : List Entry
entries = flow ∷ gen ∷ map (λ t. t.entry) tools

-- the command of one of these tools that the words spell
abbrev pub command_of : List (List ℕ) → Option Command
command_of words = command_in tools words
