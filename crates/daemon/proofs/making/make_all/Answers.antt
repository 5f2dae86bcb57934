use Rattle.crew.specs.Views.{job_of}
use Rattle.daemon.proofs.WholeLemmas.{left_ears, left_fresh, left_helpers, left_passes, left_peers}
use Rattle.daemon.proofs.WholeLemmas.{all_back, all_files, all_laid, all_room, all_whole}
use Rattle.daemon.proofs.making.make_all.Goals as goal

pub add_rest-rest-requires-clause-few_helpers : goal.add_rest-rest-requires-clause-few_helpers
add_rest-rest-requires-clause-few_helpers g c = λ places bounds. left_helpers _ _ _ _ _ _ c.in-Ok.ensures.kept _
    c.requires.full

pub add_rest-rest-requires-clause-few_peers : goal.add_rest-rest-requires-clause-few_peers
add_rest-rest-requires-clause-few_peers g c = λ places bounds. left_peers _ _ _ _ _ _ c.in-Ok.ensures.kept _
    c.requires.full

pub add_rest-rest-requires-clause-ears : goal.add_rest-rest-requires-clause-ears
add_rest-rest-requires-clause-ears g c = λ places bounds. left_ears _ _ _ _ _ _ c.in-Ok.ensures.kept _ c.requires.full

pub add_rest-rest-requires-clause-passes : goal.add_rest-rest-requires-clause-passes
add_rest-rest-requires-clause-passes g c = λ places bounds. left_passes _ _ _ _ _ _ c.in-Ok.ensures.kept _
    c.requires.full

pub add_rest-rest-requires-clause-fresh : goal.add_rest-rest-requires-clause-fresh
add_rest-rest-requires-clause-fresh g c = λ places bounds. left_fresh _ _ _ _ _ _ c.in-Ok.ensures.kept _ c.requires.full

pub take_all_apart-requires-clause-whole : goal.take_all_apart-requires-clause-whole
take_all_apart-requires-clause-whole g c κs within =
    all_whole (λ place. job_of place.worker) c.args.files c.args.path.now c.args.slots c.args.stock.now
    c.start_keeper.new.stock c.add_rest-rest.new.stock c.in-Ok.places.items c.add_rest-rest.new.places.items
    c.turn_round.new.items.items c.turn_round.ensures c.in-Ok.ensures.kept c.add_rest-rest.ensures.moves

pub take_all_apart-requires-clause-room : goal.take_all_apart-requires-clause-room
take_all_apart-requires-clause-room g c κs within =
    all_room (λ place. job_of place.worker) c.args.files c.args.path.now c.args.slots c.args.stock.now
    c.start_keeper.new.stock c.add_rest-rest.new.stock c.in-Ok.places.items c.add_rest-rest.new.places.items
    c.turn_round.new.items.items c.turn_round.ensures c.in-Ok.ensures.kept c.add_rest-rest.ensures.moves
    c.start_keeper.ensures.room

pub returns-in-Ok-rest-clause-laid : goal.returns-in-Ok-rest-clause-laid
returns-in-Ok-rest-clause-laid g c =
    all_laid (λ place. job_of place.worker) c.args.files c.args.path.now c.args.slots c.args.stock.now
    c.start_keeper.new.stock c.add_rest-rest.new.stock c.in-Ok.places.items c.add_rest-rest.new.places.items
    c.turn_round.new.items.items c.turn_round.ensures c.in-Ok.ensures.kept c.args.clock c.in-Ok-rest.ensures.lays

pub returns-in-Ok-rest-clause-room : goal.returns-in-Ok-rest-clause-room
returns-in-Ok-rest-clause-room g c =
    all_room (λ place. job_of place.worker) c.args.files c.args.path.now c.args.slots c.args.stock.now
    c.start_keeper.new.stock c.add_rest-rest.new.stock c.in-Ok.places.items c.add_rest-rest.new.places.items
    c.turn_round.new.items.items c.turn_round.ensures c.in-Ok.ensures.kept c.add_rest-rest.ensures.moves
    c.start_keeper.ensures.room

pub returns-in-Err-rest-clause-files : goal.returns-in-Err-rest-clause-files
returns-in-Err-rest-clause-files g c =
    all_files (λ place. job_of place.worker) c.args.files c.args.path.now c.args.slots c.args.stock.now
    c.start_keeper.new.stock c.add_rest-rest.new.stock c.in-Ok.places.items c.add_rest-rest.new.places.items
    c.turn_round.new.items.items c.turn_round.ensures c.in-Ok.ensures.kept c.add_rest-rest.ensures.moves
    c.take_all_apart.result c.take_all_apart.ensures.files

pub returns-in-Err-rest-clause-back : goal.returns-in-Err-rest-clause-back
returns-in-Err-rest-clause-back g c =
    all_back (λ place. job_of place.worker) c.args.files c.args.path.now c.args.slots c.args.stock.now
    c.start_keeper.new.stock c.add_rest-rest.new.stock c.in-Ok.places.items c.add_rest-rest.new.places.items
    c.turn_round.new.items.items c.turn_round.ensures c.in-Ok.ensures.kept c.add_rest-rest.ensures.moves
    c.take_all_apart.new.stock c.take_all_apart.ensures.back
