use Rattle.evp_graph.proofs.Listed.{ListsRoutes-routes_of}
use Rattle.evp_graph.proofs.listing.routes_are_listed.Goals as goal

pub returns : goal.returns
returns c = ListsRoutes-routes_of c.args.graph.now c.targets-sound.ensures.sound
