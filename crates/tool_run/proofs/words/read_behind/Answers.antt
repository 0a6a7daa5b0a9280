use Rattle.std.proofs.Common.{rules, Some, None, List, [], ◌∷◌, option_map, sym, ap, ◌∙◌}
use Rattle.tool_words.specs.Spelling.{Tool, tool}
use Rattle.syf_run.specs.Words.{syf, syf_from}
use Rattle.boom_run.specs.Words.{boom, boom_from}
use Rattle.boog_run.specs.Words.{boog, boog_from}
use Rattle.loon_run.specs.Words.{loon, loon_from}
use Rattle.ocp_run.specs.Words.{ocp, ocp_from}
use Rattle.nero_run.specs.Words.{nero, nero_from}
use Rattle.asimut_run.specs.Words.{asimut, asimut_from}
use Rattle.cougar_run.specs.Words.{cougar, cougar_from}
use Rattle.lvx_run.specs.Words.{lvx, lvx_from}
use Rattle.druc_run.specs.Words.{druc, druc_from}
use Rattle.proof_run.specs.Words.{proof, proof_from}
use Rattle.flatbeh_run.specs.Words.{flatbeh, flatbeh_from}
use Rattle.s2r_run.specs.Words.{s2r, s2r_from}
use Rattle.scapin_run.specs.Words.{scapin, scapin_from}
use Rattle.fmi_run.specs.Words.{fmi, fmi_from}
use Rattle.rip_run.specs.Words.{rip, rip_from}
use Rattle.area_run.specs.Words.{area, area_from}
use Rattle.tool_run.specs.declared.words.Command.{Command}
use Rattle.tool_run.specs.declared.words.Command.TheVariants as command
use Rattle.tool_run.proofs.Finding.{behind}
use Rattle.tool_run.proofs.words.read_behind.Goals as goal

abbrev area_tool : Tool Command
area_tool = tool area command.Area area_from

abbrev from_area : List (Tool Command)
from_area = area_tool ∷ []

abbrev rip_tool : Tool Command
rip_tool = tool rip command.Rip rip_from

abbrev from_rip : List (Tool Command)
from_rip = rip_tool ∷ from_area

abbrev fmi_tool : Tool Command
fmi_tool = tool fmi command.Fmi fmi_from

abbrev from_fmi : List (Tool Command)
from_fmi = fmi_tool ∷ from_rip

abbrev scapin_tool : Tool Command
scapin_tool = tool scapin command.Scapin scapin_from

abbrev from_scapin : List (Tool Command)
from_scapin = scapin_tool ∷ from_fmi

abbrev s2r_tool : Tool Command
s2r_tool = tool s2r command.S2r s2r_from

abbrev from_s2r : List (Tool Command)
from_s2r = s2r_tool ∷ from_scapin

abbrev flatbeh_tool : Tool Command
flatbeh_tool = tool flatbeh command.Flatbeh flatbeh_from

abbrev from_flatbeh : List (Tool Command)
from_flatbeh = flatbeh_tool ∷ from_s2r

abbrev proof_tool : Tool Command
proof_tool = tool proof command.Proof proof_from

abbrev from_proof : List (Tool Command)
from_proof = proof_tool ∷ from_flatbeh

abbrev druc_tool : Tool Command
druc_tool = tool druc command.Druc druc_from

abbrev from_druc : List (Tool Command)
from_druc = druc_tool ∷ from_proof

abbrev lvx_tool : Tool Command
lvx_tool = tool lvx command.Lvx lvx_from

abbrev from_lvx : List (Tool Command)
from_lvx = lvx_tool ∷ from_druc

abbrev cougar_tool : Tool Command
cougar_tool = tool cougar command.Cougar cougar_from

abbrev from_cougar : List (Tool Command)
from_cougar = cougar_tool ∷ from_lvx

abbrev asimut_tool : Tool Command
asimut_tool = tool asimut command.Asimut asimut_from

abbrev from_asimut : List (Tool Command)
from_asimut = asimut_tool ∷ from_cougar

abbrev nero_tool : Tool Command
nero_tool = tool nero command.Nero nero_from

abbrev from_nero : List (Tool Command)
from_nero = nero_tool ∷ from_asimut

abbrev ocp_tool : Tool Command
ocp_tool = tool ocp command.Ocp ocp_from

abbrev from_ocp : List (Tool Command)
from_ocp = ocp_tool ∷ from_nero

abbrev loon_tool : Tool Command
loon_tool = tool loon command.Loon loon_from

abbrev from_loon : List (Tool Command)
from_loon = loon_tool ∷ from_ocp

abbrev boog_tool : Tool Command
boog_tool = tool boog command.Boog boog_from

abbrev from_boog : List (Tool Command)
from_boog = boog_tool ∷ from_loon

abbrev boom_tool : Tool Command
boom_tool = tool boom command.Boom boom_from

abbrev from_boom : List (Tool Command)
from_boom = boom_tool ∷ from_boog

abbrev syf_tool : Tool Command
syf_tool = tool syf command.Syf syf_from

pub returns-in_err-read_asked-clause-usage : goal.returns-in_err-read_asked-clause-usage
returns-in_err-read_asked-clause-usage c usage =
    behind c.args.tool.now c.args.words.now [] syf_tool from_boom None
    tt
    (sym c.is_same.ensures ∙ c.if-is_same.true) (ap (option_map command.Syf) (c.in_err-read_asked.ensures.usage (search rules)))

pub returns-then-is_same-clause-ok : goal.returns-then-is_same-clause-ok
returns-then-is_same-clause-ok c =
    behind c.args.tool.now c.args.words.now [] syf_tool from_boom
    (Some (command.Syf c.in_ok-read_asked.field-0)) tt
    (sym c.is_same.ensures ∙ c.if-is_same.true) (ap (option_map command.Syf) c.in_ok-read_asked.ensures.ok)

pub returns-in_err-read_asked-2-clause-usage : goal.returns-in_err-read_asked-2-clause-usage
returns-in_err-read_asked-2-clause-usage c usage =
    behind c.args.tool.now c.args.words.now (syf_tool ∷ []) boom_tool from_boog None
    (sym c.is_same.ensures ∙ c.if-is_same.false, tt)
    (sym c.is_same-2.ensures ∙ c.if-is_same-2.true) (ap (option_map command.Boom) (c.in_err-read_asked-2.ensures.usage (search rules)))

pub returns-then-is_same-2-clause-ok : goal.returns-then-is_same-2-clause-ok
returns-then-is_same-2-clause-ok c =
    behind c.args.tool.now c.args.words.now (syf_tool ∷ []) boom_tool from_boog
    (Some (command.Boom c.in_ok-read_asked-2.field-0)) (sym c.is_same.ensures ∙ c.if-is_same.false, tt)
    (sym c.is_same-2.ensures ∙ c.if-is_same-2.true) (ap (option_map command.Boom) c.in_ok-read_asked-2.ensures.ok)

pub returns-in_err-read_asked-3-clause-usage : goal.returns-in_err-read_asked-3-clause-usage
returns-in_err-read_asked-3-clause-usage c usage =
    behind c.args.tool.now c.args.words.now (syf_tool ∷ boom_tool ∷ []) boog_tool from_loon None
    (sym c.is_same.ensures ∙ c.if-is_same.false, (sym c.is_same-2.ensures ∙ c.if-is_same-2.false, tt))
    (sym c.is_same-3.ensures ∙ c.if-is_same-3.true) (ap (option_map command.Boog) (c.in_err-read_asked-3.ensures.usage (search rules)))

pub returns-then-is_same-3-clause-ok : goal.returns-then-is_same-3-clause-ok
returns-then-is_same-3-clause-ok c =
    behind c.args.tool.now c.args.words.now (syf_tool ∷ boom_tool ∷ []) boog_tool from_loon
    (Some (command.Boog c.in_ok-read_asked-3.field-0)) (sym c.is_same.ensures ∙ c.if-is_same.false, (sym c.is_same-2.ensures ∙ c.if-is_same-2.false, tt))
    (sym c.is_same-3.ensures ∙ c.if-is_same-3.true) (ap (option_map command.Boog) c.in_ok-read_asked-3.ensures.ok)

pub returns-in_err-read_asked-4-clause-usage : goal.returns-in_err-read_asked-4-clause-usage
returns-in_err-read_asked-4-clause-usage c usage =
    behind c.args.tool.now c.args.words.now (syf_tool ∷ boom_tool ∷ boog_tool ∷ []) loon_tool from_ocp None
    (sym c.is_same.ensures ∙ c.if-is_same.false, (sym c.is_same-2.ensures ∙ c.if-is_same-2.false, (sym c.is_same-3.ensures ∙ c.if-is_same-3.false, tt)))
    (sym c.is_same-4.ensures ∙ c.if-is_same-4.true) (ap (option_map command.Loon) (c.in_err-read_asked-4.ensures.usage (search rules)))

pub returns-then-is_same-4-clause-ok : goal.returns-then-is_same-4-clause-ok
returns-then-is_same-4-clause-ok c =
    behind c.args.tool.now c.args.words.now (syf_tool ∷ boom_tool ∷ boog_tool ∷ []) loon_tool from_ocp
    (Some (command.Loon c.in_ok-read_asked-4.field-0)) (sym c.is_same.ensures ∙ c.if-is_same.false, (sym c.is_same-2.ensures ∙ c.if-is_same-2.false, (sym c.is_same-3.ensures ∙ c.if-is_same-3.false, tt)))
    (sym c.is_same-4.ensures ∙ c.if-is_same-4.true) (ap (option_map command.Loon) c.in_ok-read_asked-4.ensures.ok)

pub returns-in_err-read_asked-5-clause-usage : goal.returns-in_err-read_asked-5-clause-usage
returns-in_err-read_asked-5-clause-usage c usage =
    behind c.args.tool.now c.args.words.now (syf_tool ∷ boom_tool ∷ boog_tool ∷ loon_tool ∷ []) ocp_tool from_nero None
    (sym c.is_same.ensures ∙ c.if-is_same.false, (sym c.is_same-2.ensures ∙ c.if-is_same-2.false, (sym c.is_same-3.ensures ∙ c.if-is_same-3.false, (sym c.is_same-4.ensures ∙ c.if-is_same-4.false, tt))))
    (sym c.is_same-5.ensures ∙ c.if-is_same-5.true) (ap (option_map command.Ocp) (c.in_err-read_asked-5.ensures.usage (search rules)))

pub returns-then-is_same-5-clause-ok : goal.returns-then-is_same-5-clause-ok
returns-then-is_same-5-clause-ok c =
    behind c.args.tool.now c.args.words.now (syf_tool ∷ boom_tool ∷ boog_tool ∷ loon_tool ∷ []) ocp_tool from_nero
    (Some (command.Ocp c.in_ok-read_asked-5.field-0)) (sym c.is_same.ensures ∙ c.if-is_same.false, (sym c.is_same-2.ensures ∙ c.if-is_same-2.false, (sym c.is_same-3.ensures ∙ c.if-is_same-3.false, (sym c.is_same-4.ensures ∙ c.if-is_same-4.false, tt))))
    (sym c.is_same-5.ensures ∙ c.if-is_same-5.true) (ap (option_map command.Ocp) c.in_ok-read_asked-5.ensures.ok)

pub returns-in_err-read_asked-6-clause-usage : goal.returns-in_err-read_asked-6-clause-usage
returns-in_err-read_asked-6-clause-usage c usage =
    behind c.args.tool.now c.args.words.now (syf_tool ∷ boom_tool ∷ boog_tool ∷ loon_tool ∷ ocp_tool ∷ []) nero_tool from_asimut None
    (sym c.is_same.ensures ∙ c.if-is_same.false, (sym c.is_same-2.ensures ∙ c.if-is_same-2.false, (sym c.is_same-3.ensures ∙ c.if-is_same-3.false, (sym c.is_same-4.ensures ∙ c.if-is_same-4.false, (sym c.is_same-5.ensures ∙ c.if-is_same-5.false, tt)))))
    (sym c.is_same-6.ensures ∙ c.if-is_same-6.true) (ap (option_map command.Nero) (c.in_err-read_asked-6.ensures.usage (search rules)))

pub returns-then-is_same-6-clause-ok : goal.returns-then-is_same-6-clause-ok
returns-then-is_same-6-clause-ok c =
    behind c.args.tool.now c.args.words.now (syf_tool ∷ boom_tool ∷ boog_tool ∷ loon_tool ∷ ocp_tool ∷ []) nero_tool from_asimut
    (Some (command.Nero c.in_ok-read_asked-6.field-0)) (sym c.is_same.ensures ∙ c.if-is_same.false, (sym c.is_same-2.ensures ∙ c.if-is_same-2.false, (sym c.is_same-3.ensures ∙ c.if-is_same-3.false, (sym c.is_same-4.ensures ∙ c.if-is_same-4.false, (sym c.is_same-5.ensures ∙ c.if-is_same-5.false, tt)))))
    (sym c.is_same-6.ensures ∙ c.if-is_same-6.true) (ap (option_map command.Nero) c.in_ok-read_asked-6.ensures.ok)

pub returns-in_err-read_asked-7-clause-usage : goal.returns-in_err-read_asked-7-clause-usage
returns-in_err-read_asked-7-clause-usage c usage =
    behind c.args.tool.now c.args.words.now (syf_tool ∷ boom_tool ∷ boog_tool ∷ loon_tool ∷ ocp_tool ∷ nero_tool ∷ []) asimut_tool from_cougar None
    (sym c.is_same.ensures ∙ c.if-is_same.false, (sym c.is_same-2.ensures ∙ c.if-is_same-2.false, (sym c.is_same-3.ensures ∙ c.if-is_same-3.false, (sym c.is_same-4.ensures ∙ c.if-is_same-4.false, (sym c.is_same-5.ensures ∙ c.if-is_same-5.false, (sym c.is_same-6.ensures ∙ c.if-is_same-6.false, tt))))))
    (sym c.is_same-7.ensures ∙ c.if-is_same-7.true) (ap (option_map command.Asimut) (c.in_err-read_asked-7.ensures.usage (search rules)))

pub returns-then-is_same-7-clause-ok : goal.returns-then-is_same-7-clause-ok
returns-then-is_same-7-clause-ok c =
    behind c.args.tool.now c.args.words.now (syf_tool ∷ boom_tool ∷ boog_tool ∷ loon_tool ∷ ocp_tool ∷ nero_tool ∷ []) asimut_tool from_cougar
    (Some (command.Asimut c.in_ok-read_asked-7.field-0)) (sym c.is_same.ensures ∙ c.if-is_same.false, (sym c.is_same-2.ensures ∙ c.if-is_same-2.false, (sym c.is_same-3.ensures ∙ c.if-is_same-3.false, (sym c.is_same-4.ensures ∙ c.if-is_same-4.false, (sym c.is_same-5.ensures ∙ c.if-is_same-5.false, (sym c.is_same-6.ensures ∙ c.if-is_same-6.false, tt))))))
    (sym c.is_same-7.ensures ∙ c.if-is_same-7.true) (ap (option_map command.Asimut) c.in_ok-read_asked-7.ensures.ok)

pub returns-in_err-read_asked-8-clause-usage : goal.returns-in_err-read_asked-8-clause-usage
returns-in_err-read_asked-8-clause-usage c usage =
    behind c.args.tool.now c.args.words.now (syf_tool ∷ boom_tool ∷ boog_tool ∷ loon_tool ∷ ocp_tool ∷ nero_tool ∷ asimut_tool ∷ []) cougar_tool from_lvx None
    (sym c.is_same.ensures ∙ c.if-is_same.false, (sym c.is_same-2.ensures ∙ c.if-is_same-2.false, (sym c.is_same-3.ensures ∙ c.if-is_same-3.false, (sym c.is_same-4.ensures ∙ c.if-is_same-4.false, (sym c.is_same-5.ensures ∙ c.if-is_same-5.false, (sym c.is_same-6.ensures ∙ c.if-is_same-6.false, (sym c.is_same-7.ensures ∙ c.if-is_same-7.false, tt)))))))
    (sym c.is_same-8.ensures ∙ c.if-is_same-8.true) (ap (option_map command.Cougar) (c.in_err-read_asked-8.ensures.usage (search rules)))

pub returns-then-is_same-8-clause-ok : goal.returns-then-is_same-8-clause-ok
returns-then-is_same-8-clause-ok c =
    behind c.args.tool.now c.args.words.now (syf_tool ∷ boom_tool ∷ boog_tool ∷ loon_tool ∷ ocp_tool ∷ nero_tool ∷ asimut_tool ∷ []) cougar_tool from_lvx
    (Some (command.Cougar c.in_ok-read_asked-8.field-0)) (sym c.is_same.ensures ∙ c.if-is_same.false, (sym c.is_same-2.ensures ∙ c.if-is_same-2.false, (sym c.is_same-3.ensures ∙ c.if-is_same-3.false, (sym c.is_same-4.ensures ∙ c.if-is_same-4.false, (sym c.is_same-5.ensures ∙ c.if-is_same-5.false, (sym c.is_same-6.ensures ∙ c.if-is_same-6.false, (sym c.is_same-7.ensures ∙ c.if-is_same-7.false, tt)))))))
    (sym c.is_same-8.ensures ∙ c.if-is_same-8.true) (ap (option_map command.Cougar) c.in_ok-read_asked-8.ensures.ok)

pub returns-in_err-read_asked-9-clause-usage : goal.returns-in_err-read_asked-9-clause-usage
returns-in_err-read_asked-9-clause-usage c usage =
    behind c.args.tool.now c.args.words.now (syf_tool ∷ boom_tool ∷ boog_tool ∷ loon_tool ∷ ocp_tool ∷ nero_tool ∷ asimut_tool ∷ cougar_tool ∷ []) lvx_tool from_druc None
    (sym c.is_same.ensures ∙ c.if-is_same.false, (sym c.is_same-2.ensures ∙ c.if-is_same-2.false, (sym c.is_same-3.ensures ∙ c.if-is_same-3.false, (sym c.is_same-4.ensures ∙ c.if-is_same-4.false, (sym c.is_same-5.ensures ∙ c.if-is_same-5.false, (sym c.is_same-6.ensures ∙ c.if-is_same-6.false, (sym c.is_same-7.ensures ∙ c.if-is_same-7.false, (sym c.is_same-8.ensures ∙ c.if-is_same-8.false, tt))))))))
    (sym c.is_same-9.ensures ∙ c.if-is_same-9.true) (ap (option_map command.Lvx) (c.in_err-read_asked-9.ensures.usage (search rules)))

pub returns-then-is_same-9-clause-ok : goal.returns-then-is_same-9-clause-ok
returns-then-is_same-9-clause-ok c =
    behind c.args.tool.now c.args.words.now (syf_tool ∷ boom_tool ∷ boog_tool ∷ loon_tool ∷ ocp_tool ∷ nero_tool ∷ asimut_tool ∷ cougar_tool ∷ []) lvx_tool from_druc
    (Some (command.Lvx c.in_ok-read_asked-9.field-0)) (sym c.is_same.ensures ∙ c.if-is_same.false, (sym c.is_same-2.ensures ∙ c.if-is_same-2.false, (sym c.is_same-3.ensures ∙ c.if-is_same-3.false, (sym c.is_same-4.ensures ∙ c.if-is_same-4.false, (sym c.is_same-5.ensures ∙ c.if-is_same-5.false, (sym c.is_same-6.ensures ∙ c.if-is_same-6.false, (sym c.is_same-7.ensures ∙ c.if-is_same-7.false, (sym c.is_same-8.ensures ∙ c.if-is_same-8.false, tt))))))))
    (sym c.is_same-9.ensures ∙ c.if-is_same-9.true) (ap (option_map command.Lvx) c.in_ok-read_asked-9.ensures.ok)

pub returns-in_err-read_asked-10-clause-usage : goal.returns-in_err-read_asked-10-clause-usage
returns-in_err-read_asked-10-clause-usage c usage =
    behind c.args.tool.now c.args.words.now (syf_tool ∷ boom_tool ∷ boog_tool ∷ loon_tool ∷ ocp_tool ∷ nero_tool ∷ asimut_tool ∷ cougar_tool ∷ lvx_tool ∷ []) druc_tool from_proof None
    (sym c.is_same.ensures ∙ c.if-is_same.false, (sym c.is_same-2.ensures ∙ c.if-is_same-2.false, (sym c.is_same-3.ensures ∙ c.if-is_same-3.false, (sym c.is_same-4.ensures ∙ c.if-is_same-4.false, (sym c.is_same-5.ensures ∙ c.if-is_same-5.false, (sym c.is_same-6.ensures ∙ c.if-is_same-6.false, (sym c.is_same-7.ensures ∙ c.if-is_same-7.false, (sym c.is_same-8.ensures ∙ c.if-is_same-8.false, (sym c.is_same-9.ensures ∙ c.if-is_same-9.false, tt)))))))))
    (sym c.is_same-10.ensures ∙ c.if-is_same-10.true) (ap (option_map command.Druc) (c.in_err-read_asked-10.ensures.usage (search rules)))

pub returns-then-is_same-10-clause-ok : goal.returns-then-is_same-10-clause-ok
returns-then-is_same-10-clause-ok c =
    behind c.args.tool.now c.args.words.now (syf_tool ∷ boom_tool ∷ boog_tool ∷ loon_tool ∷ ocp_tool ∷ nero_tool ∷ asimut_tool ∷ cougar_tool ∷ lvx_tool ∷ []) druc_tool from_proof
    (Some (command.Druc c.in_ok-read_asked-10.field-0)) (sym c.is_same.ensures ∙ c.if-is_same.false, (sym c.is_same-2.ensures ∙ c.if-is_same-2.false, (sym c.is_same-3.ensures ∙ c.if-is_same-3.false, (sym c.is_same-4.ensures ∙ c.if-is_same-4.false, (sym c.is_same-5.ensures ∙ c.if-is_same-5.false, (sym c.is_same-6.ensures ∙ c.if-is_same-6.false, (sym c.is_same-7.ensures ∙ c.if-is_same-7.false, (sym c.is_same-8.ensures ∙ c.if-is_same-8.false, (sym c.is_same-9.ensures ∙ c.if-is_same-9.false, tt)))))))))
    (sym c.is_same-10.ensures ∙ c.if-is_same-10.true) (ap (option_map command.Druc) c.in_ok-read_asked-10.ensures.ok)

pub returns-in_err-read_asked-11-clause-usage : goal.returns-in_err-read_asked-11-clause-usage
returns-in_err-read_asked-11-clause-usage c usage =
    behind c.args.tool.now c.args.words.now (syf_tool ∷ boom_tool ∷ boog_tool ∷ loon_tool ∷ ocp_tool ∷ nero_tool ∷ asimut_tool ∷ cougar_tool ∷ lvx_tool ∷ druc_tool ∷ []) proof_tool from_flatbeh None
    (sym c.is_same.ensures ∙ c.if-is_same.false, (sym c.is_same-2.ensures ∙ c.if-is_same-2.false, (sym c.is_same-3.ensures ∙ c.if-is_same-3.false, (sym c.is_same-4.ensures ∙ c.if-is_same-4.false, (sym c.is_same-5.ensures ∙ c.if-is_same-5.false, (sym c.is_same-6.ensures ∙ c.if-is_same-6.false, (sym c.is_same-7.ensures ∙ c.if-is_same-7.false, (sym c.is_same-8.ensures ∙ c.if-is_same-8.false, (sym c.is_same-9.ensures ∙ c.if-is_same-9.false, (sym c.is_same-10.ensures ∙ c.if-is_same-10.false, tt))))))))))
    (sym c.is_same-11.ensures ∙ c.if-is_same-11.true) (ap (option_map command.Proof) (c.in_err-read_asked-11.ensures.usage (search rules)))

pub returns-then-is_same-11-clause-ok : goal.returns-then-is_same-11-clause-ok
returns-then-is_same-11-clause-ok c =
    behind c.args.tool.now c.args.words.now (syf_tool ∷ boom_tool ∷ boog_tool ∷ loon_tool ∷ ocp_tool ∷ nero_tool ∷ asimut_tool ∷ cougar_tool ∷ lvx_tool ∷ druc_tool ∷ []) proof_tool from_flatbeh
    (Some (command.Proof c.in_ok-read_asked-11.field-0)) (sym c.is_same.ensures ∙ c.if-is_same.false, (sym c.is_same-2.ensures ∙ c.if-is_same-2.false, (sym c.is_same-3.ensures ∙ c.if-is_same-3.false, (sym c.is_same-4.ensures ∙ c.if-is_same-4.false, (sym c.is_same-5.ensures ∙ c.if-is_same-5.false, (sym c.is_same-6.ensures ∙ c.if-is_same-6.false, (sym c.is_same-7.ensures ∙ c.if-is_same-7.false, (sym c.is_same-8.ensures ∙ c.if-is_same-8.false, (sym c.is_same-9.ensures ∙ c.if-is_same-9.false, (sym c.is_same-10.ensures ∙ c.if-is_same-10.false, tt))))))))))
    (sym c.is_same-11.ensures ∙ c.if-is_same-11.true) (ap (option_map command.Proof) c.in_ok-read_asked-11.ensures.ok)

pub returns-in_err-read_asked-12-clause-usage : goal.returns-in_err-read_asked-12-clause-usage
returns-in_err-read_asked-12-clause-usage c usage =
    behind c.args.tool.now c.args.words.now (syf_tool ∷ boom_tool ∷ boog_tool ∷ loon_tool ∷ ocp_tool ∷ nero_tool ∷ asimut_tool ∷ cougar_tool ∷ lvx_tool ∷ druc_tool ∷ proof_tool ∷ []) flatbeh_tool from_s2r None
    (sym c.is_same.ensures ∙ c.if-is_same.false, (sym c.is_same-2.ensures ∙ c.if-is_same-2.false, (sym c.is_same-3.ensures ∙ c.if-is_same-3.false, (sym c.is_same-4.ensures ∙ c.if-is_same-4.false, (sym c.is_same-5.ensures ∙ c.if-is_same-5.false, (sym c.is_same-6.ensures ∙ c.if-is_same-6.false, (sym c.is_same-7.ensures ∙ c.if-is_same-7.false, (sym c.is_same-8.ensures ∙ c.if-is_same-8.false, (sym c.is_same-9.ensures ∙ c.if-is_same-9.false, (sym c.is_same-10.ensures ∙ c.if-is_same-10.false, (sym c.is_same-11.ensures ∙ c.if-is_same-11.false, tt)))))))))))
    (sym c.is_same-12.ensures ∙ c.if-is_same-12.true) (ap (option_map command.Flatbeh) (c.in_err-read_asked-12.ensures.usage (search rules)))

pub returns-then-is_same-12-clause-ok : goal.returns-then-is_same-12-clause-ok
returns-then-is_same-12-clause-ok c =
    behind c.args.tool.now c.args.words.now (syf_tool ∷ boom_tool ∷ boog_tool ∷ loon_tool ∷ ocp_tool ∷ nero_tool ∷ asimut_tool ∷ cougar_tool ∷ lvx_tool ∷ druc_tool ∷ proof_tool ∷ []) flatbeh_tool from_s2r
    (Some (command.Flatbeh c.in_ok-read_asked-12.field-0)) (sym c.is_same.ensures ∙ c.if-is_same.false, (sym c.is_same-2.ensures ∙ c.if-is_same-2.false, (sym c.is_same-3.ensures ∙ c.if-is_same-3.false, (sym c.is_same-4.ensures ∙ c.if-is_same-4.false, (sym c.is_same-5.ensures ∙ c.if-is_same-5.false, (sym c.is_same-6.ensures ∙ c.if-is_same-6.false, (sym c.is_same-7.ensures ∙ c.if-is_same-7.false, (sym c.is_same-8.ensures ∙ c.if-is_same-8.false, (sym c.is_same-9.ensures ∙ c.if-is_same-9.false, (sym c.is_same-10.ensures ∙ c.if-is_same-10.false, (sym c.is_same-11.ensures ∙ c.if-is_same-11.false, tt)))))))))))
    (sym c.is_same-12.ensures ∙ c.if-is_same-12.true) (ap (option_map command.Flatbeh) c.in_ok-read_asked-12.ensures.ok)

pub returns-in_err-read_asked-13-clause-usage : goal.returns-in_err-read_asked-13-clause-usage
returns-in_err-read_asked-13-clause-usage c usage =
    behind c.args.tool.now c.args.words.now (syf_tool ∷ boom_tool ∷ boog_tool ∷ loon_tool ∷ ocp_tool ∷ nero_tool ∷ asimut_tool ∷ cougar_tool ∷ lvx_tool ∷ druc_tool ∷ proof_tool ∷ flatbeh_tool ∷ []) s2r_tool from_scapin None
    (sym c.is_same.ensures ∙ c.if-is_same.false, (sym c.is_same-2.ensures ∙ c.if-is_same-2.false, (sym c.is_same-3.ensures ∙ c.if-is_same-3.false, (sym c.is_same-4.ensures ∙ c.if-is_same-4.false, (sym c.is_same-5.ensures ∙ c.if-is_same-5.false, (sym c.is_same-6.ensures ∙ c.if-is_same-6.false, (sym c.is_same-7.ensures ∙ c.if-is_same-7.false, (sym c.is_same-8.ensures ∙ c.if-is_same-8.false, (sym c.is_same-9.ensures ∙ c.if-is_same-9.false, (sym c.is_same-10.ensures ∙ c.if-is_same-10.false, (sym c.is_same-11.ensures ∙ c.if-is_same-11.false, (sym c.is_same-12.ensures ∙ c.if-is_same-12.false, tt))))))))))))
    (sym c.is_same-13.ensures ∙ c.if-is_same-13.true) (ap (option_map command.S2r) (c.in_err-read_asked-13.ensures.usage (search rules)))

pub returns-then-is_same-13-clause-ok : goal.returns-then-is_same-13-clause-ok
returns-then-is_same-13-clause-ok c =
    behind c.args.tool.now c.args.words.now (syf_tool ∷ boom_tool ∷ boog_tool ∷ loon_tool ∷ ocp_tool ∷ nero_tool ∷ asimut_tool ∷ cougar_tool ∷ lvx_tool ∷ druc_tool ∷ proof_tool ∷ flatbeh_tool ∷ []) s2r_tool from_scapin
    (Some (command.S2r c.in_ok-read_asked-13.field-0)) (sym c.is_same.ensures ∙ c.if-is_same.false, (sym c.is_same-2.ensures ∙ c.if-is_same-2.false, (sym c.is_same-3.ensures ∙ c.if-is_same-3.false, (sym c.is_same-4.ensures ∙ c.if-is_same-4.false, (sym c.is_same-5.ensures ∙ c.if-is_same-5.false, (sym c.is_same-6.ensures ∙ c.if-is_same-6.false, (sym c.is_same-7.ensures ∙ c.if-is_same-7.false, (sym c.is_same-8.ensures ∙ c.if-is_same-8.false, (sym c.is_same-9.ensures ∙ c.if-is_same-9.false, (sym c.is_same-10.ensures ∙ c.if-is_same-10.false, (sym c.is_same-11.ensures ∙ c.if-is_same-11.false, (sym c.is_same-12.ensures ∙ c.if-is_same-12.false, tt))))))))))))
    (sym c.is_same-13.ensures ∙ c.if-is_same-13.true) (ap (option_map command.S2r) c.in_ok-read_asked-13.ensures.ok)

pub returns-in_err-read_asked-14-clause-usage : goal.returns-in_err-read_asked-14-clause-usage
returns-in_err-read_asked-14-clause-usage c usage =
    behind c.args.tool.now c.args.words.now (syf_tool ∷ boom_tool ∷ boog_tool ∷ loon_tool ∷ ocp_tool ∷ nero_tool ∷ asimut_tool ∷ cougar_tool ∷ lvx_tool ∷ druc_tool ∷ proof_tool ∷ flatbeh_tool ∷ s2r_tool ∷ []) scapin_tool from_fmi None
    (sym c.is_same.ensures ∙ c.if-is_same.false, (sym c.is_same-2.ensures ∙ c.if-is_same-2.false, (sym c.is_same-3.ensures ∙ c.if-is_same-3.false, (sym c.is_same-4.ensures ∙ c.if-is_same-4.false, (sym c.is_same-5.ensures ∙ c.if-is_same-5.false, (sym c.is_same-6.ensures ∙ c.if-is_same-6.false, (sym c.is_same-7.ensures ∙ c.if-is_same-7.false, (sym c.is_same-8.ensures ∙ c.if-is_same-8.false, (sym c.is_same-9.ensures ∙ c.if-is_same-9.false, (sym c.is_same-10.ensures ∙ c.if-is_same-10.false, (sym c.is_same-11.ensures ∙ c.if-is_same-11.false, (sym c.is_same-12.ensures ∙ c.if-is_same-12.false, (sym c.is_same-13.ensures ∙ c.if-is_same-13.false, tt)))))))))))))
    (sym c.is_same-14.ensures ∙ c.if-is_same-14.true) (ap (option_map command.Scapin) (c.in_err-read_asked-14.ensures.usage (search rules)))

pub returns-then-is_same-14-clause-ok : goal.returns-then-is_same-14-clause-ok
returns-then-is_same-14-clause-ok c =
    behind c.args.tool.now c.args.words.now (syf_tool ∷ boom_tool ∷ boog_tool ∷ loon_tool ∷ ocp_tool ∷ nero_tool ∷ asimut_tool ∷ cougar_tool ∷ lvx_tool ∷ druc_tool ∷ proof_tool ∷ flatbeh_tool ∷ s2r_tool ∷ []) scapin_tool from_fmi
    (Some (command.Scapin c.in_ok-read_asked-14.field-0)) (sym c.is_same.ensures ∙ c.if-is_same.false, (sym c.is_same-2.ensures ∙ c.if-is_same-2.false, (sym c.is_same-3.ensures ∙ c.if-is_same-3.false, (sym c.is_same-4.ensures ∙ c.if-is_same-4.false, (sym c.is_same-5.ensures ∙ c.if-is_same-5.false, (sym c.is_same-6.ensures ∙ c.if-is_same-6.false, (sym c.is_same-7.ensures ∙ c.if-is_same-7.false, (sym c.is_same-8.ensures ∙ c.if-is_same-8.false, (sym c.is_same-9.ensures ∙ c.if-is_same-9.false, (sym c.is_same-10.ensures ∙ c.if-is_same-10.false, (sym c.is_same-11.ensures ∙ c.if-is_same-11.false, (sym c.is_same-12.ensures ∙ c.if-is_same-12.false, (sym c.is_same-13.ensures ∙ c.if-is_same-13.false, tt)))))))))))))
    (sym c.is_same-14.ensures ∙ c.if-is_same-14.true) (ap (option_map command.Scapin) c.in_ok-read_asked-14.ensures.ok)

pub returns-in_err-read_asked-15-clause-usage : goal.returns-in_err-read_asked-15-clause-usage
returns-in_err-read_asked-15-clause-usage c usage =
    behind c.args.tool.now c.args.words.now (syf_tool ∷ boom_tool ∷ boog_tool ∷ loon_tool ∷ ocp_tool ∷ nero_tool ∷ asimut_tool ∷ cougar_tool ∷ lvx_tool ∷ druc_tool ∷ proof_tool ∷ flatbeh_tool ∷ s2r_tool ∷ scapin_tool ∷ []) fmi_tool from_rip None
    (sym c.is_same.ensures ∙ c.if-is_same.false, (sym c.is_same-2.ensures ∙ c.if-is_same-2.false, (sym c.is_same-3.ensures ∙ c.if-is_same-3.false, (sym c.is_same-4.ensures ∙ c.if-is_same-4.false, (sym c.is_same-5.ensures ∙ c.if-is_same-5.false, (sym c.is_same-6.ensures ∙ c.if-is_same-6.false, (sym c.is_same-7.ensures ∙ c.if-is_same-7.false, (sym c.is_same-8.ensures ∙ c.if-is_same-8.false, (sym c.is_same-9.ensures ∙ c.if-is_same-9.false, (sym c.is_same-10.ensures ∙ c.if-is_same-10.false, (sym c.is_same-11.ensures ∙ c.if-is_same-11.false, (sym c.is_same-12.ensures ∙ c.if-is_same-12.false, (sym c.is_same-13.ensures ∙ c.if-is_same-13.false, (sym c.is_same-14.ensures ∙ c.if-is_same-14.false, tt))))))))))))))
    (sym c.is_same-15.ensures ∙ c.if-is_same-15.true) (ap (option_map command.Fmi) (c.in_err-read_asked-15.ensures.usage (search rules)))

pub returns-then-is_same-15-clause-ok : goal.returns-then-is_same-15-clause-ok
returns-then-is_same-15-clause-ok c =
    behind c.args.tool.now c.args.words.now (syf_tool ∷ boom_tool ∷ boog_tool ∷ loon_tool ∷ ocp_tool ∷ nero_tool ∷ asimut_tool ∷ cougar_tool ∷ lvx_tool ∷ druc_tool ∷ proof_tool ∷ flatbeh_tool ∷ s2r_tool ∷ scapin_tool ∷ []) fmi_tool from_rip
    (Some (command.Fmi c.in_ok-read_asked-15.field-0)) (sym c.is_same.ensures ∙ c.if-is_same.false, (sym c.is_same-2.ensures ∙ c.if-is_same-2.false, (sym c.is_same-3.ensures ∙ c.if-is_same-3.false, (sym c.is_same-4.ensures ∙ c.if-is_same-4.false, (sym c.is_same-5.ensures ∙ c.if-is_same-5.false, (sym c.is_same-6.ensures ∙ c.if-is_same-6.false, (sym c.is_same-7.ensures ∙ c.if-is_same-7.false, (sym c.is_same-8.ensures ∙ c.if-is_same-8.false, (sym c.is_same-9.ensures ∙ c.if-is_same-9.false, (sym c.is_same-10.ensures ∙ c.if-is_same-10.false, (sym c.is_same-11.ensures ∙ c.if-is_same-11.false, (sym c.is_same-12.ensures ∙ c.if-is_same-12.false, (sym c.is_same-13.ensures ∙ c.if-is_same-13.false, (sym c.is_same-14.ensures ∙ c.if-is_same-14.false, tt))))))))))))))
    (sym c.is_same-15.ensures ∙ c.if-is_same-15.true) (ap (option_map command.Fmi) c.in_ok-read_asked-15.ensures.ok)

pub returns-in_err-read_asked-16-clause-usage : goal.returns-in_err-read_asked-16-clause-usage
returns-in_err-read_asked-16-clause-usage c usage =
    behind c.args.tool.now c.args.words.now (syf_tool ∷ boom_tool ∷ boog_tool ∷ loon_tool ∷ ocp_tool ∷ nero_tool ∷ asimut_tool ∷ cougar_tool ∷ lvx_tool ∷ druc_tool ∷ proof_tool ∷ flatbeh_tool ∷ s2r_tool ∷ scapin_tool ∷ fmi_tool ∷ []) rip_tool from_area None
    (sym c.is_same.ensures ∙ c.if-is_same.false, (sym c.is_same-2.ensures ∙ c.if-is_same-2.false, (sym c.is_same-3.ensures ∙ c.if-is_same-3.false, (sym c.is_same-4.ensures ∙ c.if-is_same-4.false, (sym c.is_same-5.ensures ∙ c.if-is_same-5.false, (sym c.is_same-6.ensures ∙ c.if-is_same-6.false, (sym c.is_same-7.ensures ∙ c.if-is_same-7.false, (sym c.is_same-8.ensures ∙ c.if-is_same-8.false, (sym c.is_same-9.ensures ∙ c.if-is_same-9.false, (sym c.is_same-10.ensures ∙ c.if-is_same-10.false, (sym c.is_same-11.ensures ∙ c.if-is_same-11.false, (sym c.is_same-12.ensures ∙ c.if-is_same-12.false, (sym c.is_same-13.ensures ∙ c.if-is_same-13.false, (sym c.is_same-14.ensures ∙ c.if-is_same-14.false, (sym c.is_same-15.ensures ∙ c.if-is_same-15.false, tt)))))))))))))))
    (sym c.is_same-16.ensures ∙ c.if-is_same-16.true) (ap (option_map command.Rip) (c.in_err-read_asked-16.ensures.usage (search rules)))

pub returns-then-is_same-16-clause-ok : goal.returns-then-is_same-16-clause-ok
returns-then-is_same-16-clause-ok c =
    behind c.args.tool.now c.args.words.now (syf_tool ∷ boom_tool ∷ boog_tool ∷ loon_tool ∷ ocp_tool ∷ nero_tool ∷ asimut_tool ∷ cougar_tool ∷ lvx_tool ∷ druc_tool ∷ proof_tool ∷ flatbeh_tool ∷ s2r_tool ∷ scapin_tool ∷ fmi_tool ∷ []) rip_tool from_area
    (Some (command.Rip c.in_ok-read_asked-16.field-0)) (sym c.is_same.ensures ∙ c.if-is_same.false, (sym c.is_same-2.ensures ∙ c.if-is_same-2.false, (sym c.is_same-3.ensures ∙ c.if-is_same-3.false, (sym c.is_same-4.ensures ∙ c.if-is_same-4.false, (sym c.is_same-5.ensures ∙ c.if-is_same-5.false, (sym c.is_same-6.ensures ∙ c.if-is_same-6.false, (sym c.is_same-7.ensures ∙ c.if-is_same-7.false, (sym c.is_same-8.ensures ∙ c.if-is_same-8.false, (sym c.is_same-9.ensures ∙ c.if-is_same-9.false, (sym c.is_same-10.ensures ∙ c.if-is_same-10.false, (sym c.is_same-11.ensures ∙ c.if-is_same-11.false, (sym c.is_same-12.ensures ∙ c.if-is_same-12.false, (sym c.is_same-13.ensures ∙ c.if-is_same-13.false, (sym c.is_same-14.ensures ∙ c.if-is_same-14.false, (sym c.is_same-15.ensures ∙ c.if-is_same-15.false, tt)))))))))))))))
    (sym c.is_same-16.ensures ∙ c.if-is_same-16.true) (ap (option_map command.Rip) c.in_ok-read_asked-16.ensures.ok)

pub returns-in_err-read_asked-17-clause-usage : goal.returns-in_err-read_asked-17-clause-usage
returns-in_err-read_asked-17-clause-usage c usage =
    behind c.args.tool.now c.args.words.now (syf_tool ∷ boom_tool ∷ boog_tool ∷ loon_tool ∷ ocp_tool ∷ nero_tool ∷ asimut_tool ∷ cougar_tool ∷ lvx_tool ∷ druc_tool ∷ proof_tool ∷ flatbeh_tool ∷ s2r_tool ∷ scapin_tool ∷ fmi_tool ∷ rip_tool ∷ []) area_tool [] None
    (sym c.is_same.ensures ∙ c.if-is_same.false, (sym c.is_same-2.ensures ∙ c.if-is_same-2.false, (sym c.is_same-3.ensures ∙ c.if-is_same-3.false, (sym c.is_same-4.ensures ∙ c.if-is_same-4.false, (sym c.is_same-5.ensures ∙ c.if-is_same-5.false, (sym c.is_same-6.ensures ∙ c.if-is_same-6.false, (sym c.is_same-7.ensures ∙ c.if-is_same-7.false, (sym c.is_same-8.ensures ∙ c.if-is_same-8.false, (sym c.is_same-9.ensures ∙ c.if-is_same-9.false, (sym c.is_same-10.ensures ∙ c.if-is_same-10.false, (sym c.is_same-11.ensures ∙ c.if-is_same-11.false, (sym c.is_same-12.ensures ∙ c.if-is_same-12.false, (sym c.is_same-13.ensures ∙ c.if-is_same-13.false, (sym c.is_same-14.ensures ∙ c.if-is_same-14.false, (sym c.is_same-15.ensures ∙ c.if-is_same-15.false, (sym c.is_same-16.ensures ∙ c.if-is_same-16.false, tt))))))))))))))))
    (sym c.is_same-17.ensures ∙ c.if-is_same-17.true) (ap (option_map command.Area) (c.in_err-read_asked-17.ensures.usage (search rules)))

pub returns-then-is_same-17-clause-ok : goal.returns-then-is_same-17-clause-ok
returns-then-is_same-17-clause-ok c =
    behind c.args.tool.now c.args.words.now (syf_tool ∷ boom_tool ∷ boog_tool ∷ loon_tool ∷ ocp_tool ∷ nero_tool ∷ asimut_tool ∷ cougar_tool ∷ lvx_tool ∷ druc_tool ∷ proof_tool ∷ flatbeh_tool ∷ s2r_tool ∷ scapin_tool ∷ fmi_tool ∷ rip_tool ∷ []) area_tool []
    (Some (command.Area c.in_ok-read_asked-17.field-0)) (sym c.is_same.ensures ∙ c.if-is_same.false, (sym c.is_same-2.ensures ∙ c.if-is_same-2.false, (sym c.is_same-3.ensures ∙ c.if-is_same-3.false, (sym c.is_same-4.ensures ∙ c.if-is_same-4.false, (sym c.is_same-5.ensures ∙ c.if-is_same-5.false, (sym c.is_same-6.ensures ∙ c.if-is_same-6.false, (sym c.is_same-7.ensures ∙ c.if-is_same-7.false, (sym c.is_same-8.ensures ∙ c.if-is_same-8.false, (sym c.is_same-9.ensures ∙ c.if-is_same-9.false, (sym c.is_same-10.ensures ∙ c.if-is_same-10.false, (sym c.is_same-11.ensures ∙ c.if-is_same-11.false, (sym c.is_same-12.ensures ∙ c.if-is_same-12.false, (sym c.is_same-13.ensures ∙ c.if-is_same-13.false, (sym c.is_same-14.ensures ∙ c.if-is_same-14.false, (sym c.is_same-15.ensures ∙ c.if-is_same-15.false, (sym c.is_same-16.ensures ∙ c.if-is_same-16.false, tt))))))))))))))))
    (sym c.is_same-17.ensures ∙ c.if-is_same-17.true) (ap (option_map command.Area) c.in_ok-read_asked-17.ensures.ok)
