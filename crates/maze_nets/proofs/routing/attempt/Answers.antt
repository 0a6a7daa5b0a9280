use Rattle.maze_nets.proofs.Shown.{routes_shown, order_shown, stuck_shown}
use Rattle.maze_nets.proofs.routing.attempt.Goals as goal

pub returns-in-None-clause-routes : goal.returns-in-None-clause-routes
returns-in-None-clause-routes c =
    routes_shown c.in_ok-router.router.occupied.grid c.args.grid c.args.nets.now c.route_in_order-stuck.new.router c.in_ok-routes.routes c.in_ok-routes.ensures c.in_ok-router.ensures.grid
    c.route_in_order-stuck.ensures.routes

pub returns-in-None-clause-ordered : goal.returns-in-None-clause-ordered
returns-in-None-clause-ordered c =
    order_shown c.in_ok-router.router.occupied.grid c.args.grid c.args.nets.now c.route_in_order-stuck.new.router c.in_ok-routes.routes c.in_ok-routes.ensures c.in_ok-router.ensures.grid
    c.in-None.ensures.all

pub returns-clause-refused : goal.returns-clause-refused
returns-clause-refused c = (
  c.in_ok-routes.ensures.size,
  routes_shown c.in_ok-router.router.occupied.grid c.args.grid c.args.nets.now c.route_in_order-stuck.new.router c.in_ok-routes.routes c.in_ok-routes.ensures c.in_ok-router.ensures.grid
      c.route_in_order-stuck.ensures.routes,
  stuck_shown c.in_ok-router.router.occupied.grid c.args.grid c.args.nets.now c.route_in_order-stuck.new.router c.in_ok-routes.routes c.in_ok-routes.ensures c.in_ok-router.ensures.grid
      c.in-Some.stuck.net c.in-Some.stuck.point c.in-Some.ensures.stuck,
)
