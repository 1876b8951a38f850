use Rattle.evp_stone.proofs.WorkPlaces.{place_found, stands_at, not_missed}
use Rattle.evp_stone.proofs.places.place_of.Goals as goal

pub unreachable-requires : goal.unreachable-requires
unreachable-requires c =
    let works = c.args.works.now in
    not_missed works c.args.route c.search.result c.in-Err.field-0
    (place_found works c.args.route c.requires.rise c.requires.there c.search.result c.search.ensures.bound c.search.ensures.position)
    c.in-Err.is

pub returns : goal.returns
returns c =
    let works = c.args.works.now in
    stands_at works c.args.route c.search.result c.in-Ok.place
    (place_found works c.args.route c.requires.rise c.requires.there c.search.result c.search.ensures.bound c.search.ensures.position)
    c.in-Ok.is
