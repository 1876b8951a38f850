-- The routes of parts make a job, or the graph's fault is the job's.
use Rattle.std.proofs.Common.{◌≡◌, ◌≢◌, List, Result, Ok, Err, refl, sym, ap, ◌∙◌, subst}
use Rattle.evp_graph.specs.Routes.{ListsRoutes, routes_of}
use Rattle.evp_graph.specs.Shape.{Shape}
use Rattle.evp_graph.specs.declared.route.Route.{Route}
use Rattle.serde_json.specs.Data.{Data}
use Rattle.evp_job.specs.declared.fault.JobFault.{JobFault}
use Rattle.evp_job.specs.declared.fault.JobFault.TheVariants as fault
use Rattle.evp_job.specs.declared.job_text.JobText.{JobText}
use Rattle.evp_job.specs.declared.parts.Parts.{Parts}
use Rattle.evp_job.specs.Expressions.{Reading}
use Rattle.evp_job.specs.Job.{PartsShape, parts_in, graph_of_parts, routed, IsRouted, IsMadeOf}
use Rattle.evp_job.specs.JobView.{parts_of, Makes, States}
use Rattle.evp_job.specs.Routing.{HasRoutes}
use Rattle.evp_job.specs.Stated.{graph_of}
use Rattle.evp_job.specs.TextView.{text_of}
use Rattle.evp_job.proofs.PartsKept.{graph_same}

-- the graph of the parts as they are kept
pub graph_kept : (parts : Parts)
    → graph_of_parts (parts_of parts) ≡ graph_of parts.head.sources.items parts.stones.items
graph_kept parts = graph_same parts.head.sources.items parts.stones.items

pub routes_made : (parts : Parts) (list : List Route)
    → HasRoutes (graph_of parts.head.sources.items parts.stones.items) (Ok list)
    → IsRouted (parts_of parts) (Ok (routed (parts_of parts) list))
routes_made parts list has =
    let here : HasRoutes (graph_of_parts (parts_of parts)) (Ok list) =
    subst (λ (graph : Shape). HasRoutes graph (Ok list)) (sym (graph_kept parts)) has in
    (here.0, here.1, ap (λ (routes : List Route). routed (parts_of parts) routes) here.2)

pub routes_listed : (parts : Parts) (list : List Route)
    → HasRoutes (graph_of parts.head.sources.items parts.stones.items) (Ok list)
    → ListsRoutes (graph_of_parts (parts_of parts)) list
routes_listed parts list has = subst (λ (graph : Shape). ListsRoutes graph list) (sym (graph_kept parts)) has.3

refused_at : (parts : PartsShape) (cause : JobFault) → HasRoutes (graph_of_parts parts) (Err cause)
    → cause ≢ fault.Memory → IsRouted parts (Err cause)
refused_at parts (fault.Graph cause) has other = has
refused_at parts fault.Routes has other = has
refused_at parts fault.Memory has other = absurd (other refl)
refused_at parts (fault.Member path) has other = absurd has
refused_at parts (fault.Layout format cause) has other = absurd has
refused_at parts (fault.UnknownFormat path) has other = absurd has
refused_at parts (fault.Expr stone k cause) has other = absurd has
refused_at parts (fault.Bind stone k cause) has other = absurd has
refused_at parts (fault.SetTarget stone k) has other = absurd has
refused_at parts (fault.Submit source asked held) has other = absurd has
refused_at parts (fault.Carriage carried limit) has other = absurd has
refused_at parts (fault.Limit path number) has other = absurd has
refused_at parts (fault.RecordLength format) has other = absurd has
refused_at parts (fault.Twice path) has other = absurd has

pub routes_refused : (parts : Parts) (cause : JobFault)
    → HasRoutes (graph_of parts.head.sources.items parts.stones.items) (Err cause)
    → cause ≢ fault.Memory → IsRouted (parts_of parts) (Err cause)
routes_refused parts cause has other =
    refused_at (parts_of parts) cause
    (subst (λ (graph : Shape). HasRoutes graph (Err cause)) (sym (graph_kept parts)) has) other

-- what parts make is what the value states
pub made_states : (reading : Reading) (value : Data) (parts : PartsShape) (result : Result JobText JobFault)
    → parts_in reading value ≡ Ok parts → Makes parts result → States value result
made_states reading value parts (Ok text) read makes =
    (reading, subst (λ (r : Result PartsShape JobFault). IsMadeOf r (Ok (text_of text))) (sym read) makes)
made_states reading value parts (Err cause) read makes = λ other.
    (reading, subst (λ (r : Result PartsShape JobFault). IsMadeOf r (Err cause)) (sym read) (makes other))
