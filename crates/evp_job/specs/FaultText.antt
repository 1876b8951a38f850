-- The texts of faults.
use Rattle.std.specs.Prelude.{ℕ, List, ◌++◌, codes}
use Rattle.std.specs.Fmt.{decimal}
use Rattle.evp_base.specs.Path.{path_text}
use Rattle.evp_eval.specs.FaultText.{bind_text}
use Rattle.evp_expr.specs.FaultText.{fault_text as expr_text}
use Rattle.evp_format.specs.FaultText.{layout_fault_text}
use Rattle.evp_graph.specs.Texts.{graph_fault_text}
use Rattle.evp_job.specs.declared.fault.JobFault.{JobFault}
use Rattle.evp_job.specs.declared.fault.JobFault.TheVariants as fault

-- a setting, or an expression that stands alone, of a stone
abbrev pub of_stone : List ℕ → ℕ → ℕ → List ℕ
of_stone what k stone = what ++ (decimal k ++ (codes " of stone " ++ decimal stone))

abbrev pub job_fault_text : JobFault → List ℕ
job_fault_text (fault.Member path) = codes "member " ++ path_text path
job_fault_text (fault.Layout format cause) =
    codes "layout of format " ++ (decimal format ++ (codes ": " ++ layout_fault_text cause))
job_fault_text (fault.UnknownFormat path) = codes "unknown format at " ++ path_text path
job_fault_text (fault.Expr stone k cause) =
    of_stone (codes "expression ") k stone ++ (codes ": " ++ expr_text cause)
job_fault_text (fault.Bind stone k cause) =
    of_stone (codes "binding ") k stone ++ (codes ": " ++ bind_text cause)
job_fault_text (fault.SetTarget stone k) = of_stone (codes "set ") k stone
job_fault_text (fault.Graph cause) = graph_fault_text cause
job_fault_text fault.Routes = codes "too many routes"
job_fault_text (fault.Submit source asked held) =
    codes "source " ++ (decimal source ++ (codes " submits " ++ (decimal asked
    ++ (codes " of " ++ decimal held))))
job_fault_text (fault.Carriage carried limit) =
    codes "carried " ++ (decimal carried ++ (codes " at limit " ++ decimal limit))
job_fault_text (fault.Limit path number) =
    codes "limit at " ++ (path_text path ++ (codes ": " ++ decimal number))
job_fault_text (fault.RecordLength format) =
    codes "format " ++ (decimal format ++ codes " is longer than the limit")
job_fault_text (fault.Twice path) = codes "name used twice at " ++ path_text path
job_fault_text fault.Memory = codes "memory"
